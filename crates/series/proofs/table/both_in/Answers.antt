use Rattle.std.proofs.Common.{◌≡◌, get_or, refl, ap, ◌∙◌, arith}
use borrow.Author.Tests.{lt-ltb, le-ltb}
use Rattle.transducer.proofs.StateSetLaws.{built_none}
use Rattle.product.specs.Numbers.{most_pairs}
use Rattle.joints.specs.Found.{among}
use Rattle.series.specs.Result.{gather, pairs_below, state_of}
use Rattle.series.proofs.StateLaws.{state_less, state_next, state_stay}
use Rattle.series.proofs.SetLaws.{built_next, built_both}
use Rattle.series.proofs.table.both_in.Goals as goal
use Rattle.series.proofs.table.both_in.Goals.{then-flag-ne0, else-flag-ne0}

pub loop-v-init : goal.loop-v-init
unfolding pairs_below gather
loop-v-init c = record { next = refl; built = rw c.empty-set.ensures built_none }

pub overflow_add-n : goal.overflow_add-n
overflow_add-n c =
    let j = among c.args.flags.now in
    let e = lt-ltb 0 (get_or c.args.flags.now c.loop-v.v 0) (omega arith) in
    omega (arith, state_less j c.loop-v.v most_pairs e (omega arith))

pub loop-v-preserved : goal.loop-v-preserved
loop-v-preserved c =
    let j = among c.args.flags.now in
    let v = c.loop-v.v in
    let n = c.loop-v.n in
    let i = c.loop-v.invariant in
    elim c.if-flag-ne0.branch [
      | then-flag-ne0 w ↦
          let e = lt-ltb 0 (get_or c.args.flags.now v 0) (omega arith) in
          record {
            next = w.n-is ∙ state_next j v n e i.next;
            built = rw (w.set-is, w.n-is, w.with_both-set.ensures)
                (built_next j c.args.s c.args.s2 v n c.loop-v.set c.requires e (omega arith) i.next i.built);
          }
      | else-flag-ne0 w ↦ record {
        next = w.n-is ∙ state_stay j v n (le-ltb 0 _ (omega arith)) i.next;
        built = rw (w.set-is, w.n-is) i.built;
      }
    ]

pub returns : goal.returns
returns c =
    let e : c.loop-v.v ≡ most_pairs = omega arith in
    built_both (among c.args.flags.now) c.args.s c.args.s2 c.loop-v.n c.loop-v.set c.requires
    (c.loop-v.invariant.next ∙ ap (state_of _) e) c.loop-v.invariant.built
