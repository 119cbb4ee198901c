-- `build` meets its contract. Assumes nothing.
use Rattle.std.proofs.Common.{◌≡◌, ◌-◌, ◌<◌, sym, ◌∙◌, arith}
use Rattle.transducer.specs.Limits.{most_states}
use Rattle.transducer.specs.Transition.{at}
use Rattle.product.specs.Machine.{view_of}
use Rattle.product.proofs.MachineLaws.{built_put, built_rows, built_image, view_at, view_count, view_none, view_valid}
use Rattle.product.proofs.machine.build.Goals as goal

pub loop-l-init : goal.loop-l-init
loop-l-init c =
    let a = c.args in
    let v = c.requires in
    record {
      valid = view_valid a.back a.t v;
      built = view_none a.back a.t c.clear.ensures v.few_transitions;
      within = omega (arith, view_count a.back a.t);
    }

pub loop-l-preserved : goal.loop-l-preserved
loop-l-preserved c =
    let a = c.args in
    let i = c.loop-l.invariant in
    let l = c.loop-l.l - 1 in
    let state : (at (view_of a.back a.t) l).from < most_states =
    omega (arith, (i.valid.used l (omega arith)).from_state, i.valid.few_states) in
    record {
      valid = i.valid;
      built =
          built_put i.built (omega arith) (omega arith) state (c.seen-v.ensures ∙ sym (view_at a.back a.t l)) c.key_for-k.ensures
          c.put-first.ensures;
      within = omega arith;
    }

pub returns : goal.returns
returns c =
    let i = c.loop-l.invariant in
    let z : c.loop-l.l ≡ 0 = omega arith in
    built_image i.valid (built_rows c.loop-l.rows (rw z at i.built))
