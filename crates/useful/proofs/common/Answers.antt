-- `common` meets its contract: each state is in the set exactly where both have it. Assumes nothing.
use mathlib.Core.Path.{◌≡◌, sym, ◌∙◌}
use mathlib.Core.Bool.{false, ◌&&◌}
use Prim.Native.Nat.{ℕ, ◌<◌, ◌^◌}
use Rattle.std.proofs.Common.{arith, rules}
use borrow.Author.Tests.{eqb-true, eq-eqb}
use lib.ListN.{get_or}
use Rattle.transducer.specs.Limits.{most_states}
use Rattle.transducer.specs.StateSet.{In}
use Rattle.transducer.specs.declared.StateSet.{StateSet}
use Rattle.transducer.proofs.Bools.{and_left, and_right, and_both}
use Rattle.transducer.proofs.Facts.{in_below}
use Rattle.transducer.proofs.StateSetLaws.{Long, has_below}
use Rattle.useful.specs.Sets.{has_of, Has}
use Rattle.useful.specs.UsefulStates.{CommonOf}
use Rattle.useful.proofs.SetLaws as sets
use Rattle.useful.proofs.common.Goals as goal

-- a list that has what both have at each state has exactly the states that are in both
common_of : (a b : ℕ) (s : StateSet) → a < 2 ^ most_states → Long s → ((q : ℕ) → q < most_states → get_or s.member q false ≡ (has_of a q && has_of b q))
    → CommonOf a b s
common_of a b s small long at = record { members = λ q. (there q, back q); long = long }
  where
    there : (q : ℕ) → In s q → Has a q × Has b q
    there q i =
        let e = sym (has_below s q (in_below s q i) ∙ at q (in_below s q i)) ∙ i in
        (record { digit = eqb-true _ _ (and_left (has_of a q) (has_of b q) e) }, record { digit = eqb-true _ _ (and_right (has_of a q) (has_of b q) e) })

    back : (q : ℕ) → Has a q × Has b q → In s q
    back q m =
        let h = sets.has_below most_states q small m.0 in
        has_below s q h ∙ at q h ∙ and_both (eq-eqb _ _ m.0.digit) (eq-eqb _ _ m.1.digit)

pub returns : goal.returns
returns c = common_of c.args.a c.args.b _ c.ranges.a.fits (search rules) (λ q h. c.loop-q.invariant q (omega arith))
