-- `steps` meets its contract. Assumes nothing.
use mathlib.Core.Path.{◌≡◌, refl}
use Prim.Native.Nat.{ℕ, ◌<◌}
use Rattle.std.proofs.Common.{arith}
use Rattle.std.proofs.lemmas.List.{length-take, get_or-take}
use Rattle.transducer.specs.Limits.{most_states}
use Rattle.transducer.specs.Transition.{at, outside}
use Rattle.transducer.specs.Valid.{Valid}
use Rattle.transducer.specs.Walks.{Edge}
use Rattle.transducer.specs.declared.Transducer.{Transducer}
use Rattle.transducer.proofs.ReversalLaws.{reversed_edge}
use Rattle.useful.proofs.StepLaws.{led_none, led_more, led_all}
use Rattle.useful.proofs.sets.steps.Goals as goal

-- transition l leads from a state to a state
record Line (t : Transducer) (l : ℕ) : Type 0 where
  edge : Edge t l (at t l).from (at t l).to
  from_below : (at t l).from < most_states
  to_below : (at t l).to < most_states

line : {t : Transducer} {l : ℕ} → Valid t → l < t.count → Line t l
line {l = l} valid used =
    let u = valid.used l used in
    record {
      edge = record { used = used; source = refl; target = refl };
      from_below = omega (arith, u.from_state, valid.few_states);
      to_below = omega (arith, u.to_state, valid.few_states);
    }

pub loop-v-init : goal.loop-v-init
loop-v-init c = record { there = led_none refl; back = led_none refl }

pub loop-v-preserved : goal.loop-v-preserved
loop-v-preserved c =
    let k = c.loop-v.invariant in
    let used : c.loop-v.v-index < c.args.t.count = omega (arith, length-take c.args.t.count c.args.t.transitions, c.loop-v-test.true) in
    let e = line c.requires used in
    let same = get_or-take c.args.t.count c.args.t.transitions c.loop-v.v-index outside used in
    record {
      there = led_more k.there e.edge e.from_below e.to_below (rw same at c.add.ensures);
      back = led_more k.back ((reversed_edge _).1 e.edge) e.to_below e.from_below (rw same at c.add-in-loop-v.ensures);
    }

pub returns-clause-ahead : goal.returns-clause-ahead
returns-clause-ahead c =
    let e : c.loop-v.v-index ≡ c.args.t.count = omega (arith, length-take c.args.t.count c.args.t.transitions) in
    led_all (λ l p q x. x.used) (rw e at c.loop-v.invariant.there)

pub returns-clause-back : goal.returns-clause-back
returns-clause-back c =
    let e : c.loop-v.v-index ≡ c.args.t.count = omega (arith, length-take c.args.t.count c.args.t.transitions) in
    led_all (λ l p q x. ((reversed_edge _).0 x).used) (rw e at c.loop-v.invariant.back)
