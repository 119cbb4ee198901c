-- Where a step of a pair leads. Assumes nothing.
use mathlib.Core.Path.{◌≡◌, refl}
use mathlib.Core.List.{List}
use Prim.Native.Nat.{ℕ, ◌/◌, ◌%◌, ◌≤◌, ◌<◌}
use native.Mathlib.Omega.{arith}
use borrow.Author.Tests.{ne_eqb}
use Rattle.product.specs.Machine.{to_of, Leaves, Machine}
use Rattle.product.specs.Numbers.{no_transition, most_pairs, pair_of, first_of, second_of, sides, label_of}
use Rattle.product.specs.Steps.{side_of, Steps, target_of}
use Rattle.product.specs.Steps.Steps.{by_both, by_left, by_right}

-- a side that takes l enters the state to which l leads, and one that rests stays
side_takes : (m : List ℕ) (q l : ℕ) → l < no_transition → side_of m q l ≡ to_of m l
unfolding side_of
side_takes m q l h = rw (ne_eqb l no_transition (λ z. omega arith))

side_rests : (m : List ℕ) (q : ℕ) → side_of m q no_transition ≡ q
unfolding side_of
side_rests m q = refl

-- where the step leads that takes l on the left side and m on the right
pub target_sides : (left right : List ℕ) (u l m : ℕ) → m ≤ no_transition
    → target_of left right u (label_of l m) ≡ pair_of (side_of left (first_of u) l) (side_of right (second_of u) m)
unfolding target_of
target_sides left right u l m h =
    let a : label_of l m / sides ≡ l = omega arith in
    let b : label_of l m % sides ≡ m = omega arith in
    rw (a, b)

module _ (left right : List ℕ) (u k : ℕ) where
  pub target_both : (l m : ℕ) → k ≡ label_of l m → l < no_transition → m < no_transition → target_of left right u k ≡ pair_of (to_of left l) (to_of right m)
  unfolding target_of
  target_both l m e h h' =
      let a : k / sides ≡ l = omega arith in
      let b : k % sides ≡ m = omega arith in
      rw (a, b, side_takes left (first_of u) l h, side_takes right (second_of u) m h')

  pub target_left : (l : ℕ) → k ≡ label_of l no_transition → l < no_transition → target_of left right u k ≡ pair_of (to_of left l) (second_of u)
  unfolding target_of
  target_left l e h =
      let a : k / sides ≡ l = omega arith in
      let b : k % sides ≡ no_transition = omega arith in
      rw (a, b, side_takes left (first_of u) l h, side_rests right (second_of u))

  pub target_right : (m : ℕ) → k ≡ label_of no_transition m → m < no_transition → target_of left right u k ≡ pair_of (first_of u) (to_of right m)
  unfolding target_of
  target_right m e h =
      let a : k / sides ≡ no_transition = omega arith in
      let b : k % sides ≡ m = omega arith in
      rw (a, b, side_rests left (first_of u), side_takes right (second_of u) m h)

module _ {left right : List ℕ} (on_left : Machine left) (on_right : Machine right) where
  -- each transition of a machine is below 256
  pub left_number : {l q : ℕ} → Leaves left l q → l < no_transition
  left_number x = omega (arith, x.used, on_left.few)

  pub right_number : {m q : ℕ} → Leaves right m q → m < no_transition
  right_number y = omega (arith, y.used, on_right.few)

  -- a step leads to a pair
  pub target_low : {u k : ℕ} → u < most_pairs → Steps left right u k → target_of left right u k < most_pairs
  target_low {u} {k} h (by_both l m e x y i n) =
      rw (target_both left right u k l m e (left_number x) (right_number y))
      (omega (arith, on_left.to_state l x.used, on_right.to_state m y.used))
  target_low {u} {k} h (by_left l e x i) = rw (target_left left right u k l e (left_number x)) (omega (arith, on_left.to_state l x.used))
  target_low {u} {k} h (by_right m e y i) = rw (target_right left right u k m e (right_number y)) (omega (arith, on_right.to_state m y.used))
