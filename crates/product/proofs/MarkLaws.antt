-- Lists that allow the pairs that pass a test. Assumes nothing.
use mathlib.Core.Path.{◌≡◌, refl, ◌∙◌}
use mathlib.Core.Bool.{Bool, true, false, cond}
use mathlib.Core.List.{List}
use Prim.Native.Nat.{ℕ, ◌+◌, ◌≤◌, ◌<◌}
use native.Mathlib.Omega.{arith}
use borrow.Author.Count.{below_more}
use borrow.Author.Tests.{lt-ltb}
use mir.Val.{bool_byte}
use lib.ListN.{set, length-set}
use lib.Seq.{get_or-set_same, get_or-set_other}
use Rattle.transducer.specs.Limits.{most_states}
use Rattle.product.specs.Numbers.{most_pairs, pair_of}
use Rattle.product.specs.Confined.{Allowed, both_below, Marked}
use Rattle.product.proofs.LabelLaws.{pair_first, pair_second}

-- a test as a number
pub bit_of : (b : Bool) → bool_byte b ≡ cond b 1 0
bit_of true = refl
bit_of false = refl

-- the number of one pair more is written
pub marked_more : {test : ℕ → Bool} {numbers : List ℕ} {i x : ℕ} → i < most_pairs → x ≡ cond (test i) 1 0 → Marked test numbers i
    → Marked test (set numbers i x) (i + 1)
marked_more {numbers = numbers} {i} {x} h e m =
    record {
      long = length-set numbers i x ∙ m.long;
      tested =
          below_more _ i (λ k hk. get_or-set_other numbers i k x 0 (λ z. omega arith) ∙ m.tested k hk)
          (get_or-set_same numbers i x 0 (omega (arith, m.long)) ∙ e);
    }

-- the pairs of one of the first n states and one of the first n' are allowed by the numbers that stand for them
pub marked_states : {n n' : ℕ} {numbers : List ℕ} → n ≤ most_states → n' ≤ most_states → Marked (both_below n n') numbers most_pairs
    → (p q : ℕ) → p < n → q < n' → Allowed numbers (pair_of p q)
unfolding both_below
marked_states {n} {n'} few few' m p q h k =
    let low : q < most_states = omega arith in
    let e = m.tested (pair_of p q) (omega arith) in
    omega (arith, simp (pair_first p q low, pair_second p q low, lt-ltb p n h, lt-ltb q n' k) at e)
