-- The list by which the search for the ways in is confined. Assumes nothing.
use mathlib.Core.Path.{◌≡◌, refl, sym, ap, ◌∙◌}
use mathlib.Core.Bool.{Bool, true, false, cond}
use mathlib.Core.List.{List}
use mathlib.Core.Logic.{◌↔◌}
use Prim.Native.Nat.{ℕ, ◌<◌}
use native.Mathlib.Decide.{dec_lt}
use native.Mathlib.Omega.{arith}
use Rattle.std.specs.Prelude.{Ok}
use lib.ListN.{get_or, get_or-eq_default}
use Rattle.transducer.specs.Accepted.{accepted_of}
use Rattle.transducer.specs.declared.Transducer.{Transducer}
use Rattle.transducer.proofs.AcceptedLaws.{accepted_valid}
use Rattle.product.specs.Numbers.{most_pairs, first_of, second_of}
use Rattle.product.specs.Confined.{Allowed, Marked}
use Rattle.pairs.specs.UsefulPairs.{is_member, UsefulPairsOf}
use Rattle.pairs.specs.Ways.{Useful}
use Rattle.pairs.specs.declared.UsefulPairs.{UsefulPairs}
use Rattle.pairs.proofs.TreeLaws.{useful_low}
use Rattle.pairs.proofs.PairSetLaws.{not_valid, pair_flag}

-- the numbers that stand for the set of the useful pairs allow exactly these
pub marked_useful : {t : Transducer} {r : UsefulPairs} {numbers : List ℕ} → accepted_of t ≡ true → UsefulPairsOf t (Ok r)
    → Marked (is_member r.set) numbers most_pairs → (v : ℕ) → Allowed numbers v ↔ Useful t v
marked_useful {t} {r} {numbers} accepted a m v = go (dec_lt v most_pairs)
  where
    -- the number of a pair says whether it is in the set
    by_flag : v < most_pairs → (b : Bool) → get_or r.set.member v false ≡ b → Allowed numbers v ↔ Useful t v
    by_flag h true e = (
      λ i. (a.members accepted (first_of v) (second_of v)).0 (sym (pair_flag r.set v h) ∙ e),
      λ u. omega (arith, m.tested v h ∙ ap (λ b. cond b 1 0) e),
    )
    by_flag h false e = (
      λ i. absurd (omega (arith, m.tested v h ∙ ap (λ b. cond b 1 0) e)),
      λ u. not_valid (pair_flag r.set v h ∙ (a.members accepted (first_of v) (second_of v)).1 u) e,
    )

    go : Dec (v < most_pairs) → Allowed numbers v ↔ Useful t v
    go (yes h) = by_flag h (get_or r.set.member v false) refl
    go (no h) = (
      λ i. absurd (omega (arith, get_or-eq_default numbers 0 {n = v} (omega (arith, m.long)))),
      λ u. absurd (let low = useful_low (accepted_valid t accepted) u in omega arith),
    )
