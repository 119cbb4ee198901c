-- How many useful pairs there are, from a list of them. Assumes nothing.
use mathlib.Core.Path.{◌≡◌, refl, sym, ◌∙◌}
use mathlib.Core.Bool.{Bool, true, false, true≢false}
use mathlib.Core.List.{List, [], ◌∷◌}
use Prim.Native.Nat.{ℕ, ◌<◌}
use native.Mathlib.Decide.{ℕ_discrete}
use native.Mathlib.Omega.{arith}
use lib.ListN.{length, get_or, set, replicate, length-set, length-replicate, get_or-replicate}
use lib.Seq.{get_or-set_other}
use Rattle.transducer.specs.Useful.{UsefulPair}
use Rattle.transducer.specs.declared.Transducer.{Transducer}
use Rattle.product.specs.Numbers.{most_pairs, pair_of, first_of, second_of}
use Rattle.product.proofs.LabelLaws.{pair_first, pair_second}
use Rattle.pairs.specs.UsefulPairs.{has_pair, count_true}
use Rattle.pairs.proofs.PairSetLaws.{has_pair_lem, pair_low}
use Rattle.functionality.specs.Decided.{UsefulCount}
use Rattle.cases.proofs.Each.{Each, more, nothing}

-- the flags of the pairs with these numbers
unfoldable pub flags_of : List ℕ → List Bool
flags_of [] = replicate most_pairs false
flags_of (v ∷ pairs) = set (flags_of pairs) v true

flags_long : (pairs : List ℕ) → length (flags_of pairs) ≡ most_pairs
unfolding flags_of
flags_long [] = length-replicate most_pairs false
flags_long (v ∷ pairs) = length-set (flags_of pairs) v true ∙ flags_long pairs

-- what holds of each of the numbers holds of every pair whose flag is true
flags_only : {S : ℕ → Type 0} {pairs : List ℕ} → Each S pairs → (v : ℕ) → v < most_pairs → get_or (flags_of pairs) v false ≡ true → S v
unfolding flags_of
flags_only nothing v h e = absurd (true≢false (sym e ∙ get_or-replicate most_pairs v false false h))
flags_only {S} (more {a = w} {list = pairs} s each) v h e = go (ℕ_discrete v w) (flags_only each v h)
  where
    go : Dec (v ≡ w) → (get_or (flags_of pairs) v false ≡ true → S v) → S v
    go (yes z) rest = rw z s
    go (no z) rest = rest (sym (get_or-set_other (flags_of pairs) w v true false z) ∙ e)

-- where each of these pairs is useful, and every useful pair is one of them, u is how many they are
pub useful_count : {t : Transducer} {pairs : List ℕ} → Each (λ v. UsefulPair t (first_of v) (second_of v)) pairs
    → ((p q : ℕ) → UsefulPair t p q → has_pair (record { member = flags_of pairs }) p q ≡ true)
    → UsefulCount t (count_true (flags_of pairs))
useful_count {t} {pairs} each all =
    record { set = record { member = flags_of pairs }; long = flags_long pairs; members = λ p q. (useful p q, all p q); counted = refl }
  where
    useful : (p q : ℕ) → has_pair (record { member = flags_of pairs }) p q ≡ true → UsefulPair t p q
    useful p q h =
        let low = pair_low (record { member = flags_of pairs }) p q h in
        rw (pair_first p q low.1, pair_second p q low.1) at
        (flags_only each (pair_of p q) (omega arith) (sym (has_pair_lem (record { member = flags_of pairs }) p q low.0 low.1) ∙ h))
