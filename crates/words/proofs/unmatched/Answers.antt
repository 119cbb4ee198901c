-- Each branch knows which of the rests past the common beginning are empty.
use Prim.Native.Nat.{ℕ, ◌-◌}
use mathlib.Core.List.{List, [], ◌∷◌}
use mathlib.Core.Path.{◌≡◌, refl, ap}
use native.Mathlib.Omega.{arith}
use lib.ListN.{take, drop, drop_of_length-le}
use lib.Seq.{drop-cons}
use Rattle.words.specs.Difference.{of_ahead}
use Rattle.words.proofs.Stripped.{stripped, compare_rests, unmatched_rest, whole_rest}
use Rattle.words.proofs.unmatched.Goals as goal

-- the part `&x[n..n]` is empty
empty-part : (n : ℕ) (x : List ℕ) → take (n - n) x ≡ []
empty-part n x = ap (λ (m : ℕ). take m x) (let e : n - n ≡ 0 = omega arith in e)

-- beside a rest that is used up, the other one is unmatched, and the part shown is of the first list
alone-unmatched : (l : List ℕ) → unmatched_rest l [] ≡ l
alone-unmatched [] = refl
alone-unmatched (a ∷ l) = refl

alone-shown : {A : Type 0} (n : ℕ) (l : List ℕ) (x y : A) → of_ahead (compare_rests n l []) x y ≡ x
alone-shown n [] x y = refl
alone-shown n (a ∷ l) x y = refl

pub slice_bounds-result-count-else-n-y : goal.slice_bounds-result-count-else-n-y
slice_bounds-result-count-else-n-y c = (stripped c.args.x.now c.args.y.now c.shared-n.ensures).in_x

pub slice_bounds-result-start-else-n-y : goal.slice_bounds-result-start-else-n-y
slice_bounds-result-start-else-n-y c =
    let k = stripped c.args.x.now c.args.y.now c.shared-n.ensures in
    omega arith

-- both go on: the empty part of x where they clash
pub returns-then-n-x-clause-result_value : goal.returns-then-n-x-clause-result_value
returns-then-n-x-clause-result_value c =
    rw (
      empty-part,
      (stripped c.args.x.now c.args.y.now c.shared-n.ensures).leaves,
      drop-cons c.args.x.now _ 0 c.if-n-x.true,
      drop-cons c.args.y.now _ 0 c.if-n-y.true,
    )

pub returns-then-n-x-clause-ref_ptr_value : goal.returns-then-n-x-clause-ref_ptr_value
returns-then-n-x-clause-ref_ptr_value c =
    rw (
      (stripped c.args.x.now c.args.y.now c.shared-n.ensures).compares,
      drop-cons c.args.x.now _ 0 c.if-n-x.true,
      drop-cons c.args.y.now _ 0 c.if-n-y.true,
      ← c.shared-n.ensures,
    )

-- y alone goes on
pub returns-else-n-x-clause-result_value : goal.returns-else-n-x-clause-result_value
returns-else-n-x-clause-result_value c =
    rw (
      whole_rest,
      (stripped c.args.x.now c.args.y.now c.shared-n.ensures).leaves,
      drop_of_length-le c.args.x.now c.if-n-x.false,
    )

pub returns-else-n-x-clause-ref_ptr_value : goal.returns-else-n-x-clause-ref_ptr_value
returns-else-n-x-clause-ref_ptr_value c =
    rw (
      (stripped c.args.x.now c.args.y.now c.shared-n.ensures).compares,
      drop_of_length-le c.args.x.now c.if-n-x.false,
      drop-cons c.args.y.now _ 0 c.if-n-y.true,
      ← c.shared-n.ensures,
    )

-- y is used up
pub returns-else-n-y-clause-result_value : goal.returns-else-n-y-clause-result_value
returns-else-n-y-clause-result_value c =
    rw (
      whole_rest,
      (stripped c.args.x.now c.args.y.now c.shared-n.ensures).leaves,
      drop_of_length-le c.args.y.now c.if-n-y.false,
      alone-unmatched,
    )

pub returns-else-n-y-clause-ref_ptr_value : goal.returns-else-n-y-clause-ref_ptr_value
returns-else-n-y-clause-ref_ptr_value c =
    rw (
      (stripped c.args.x.now c.args.y.now c.shared-n.ensures).compares,
      drop_of_length-le c.args.y.now c.if-n-y.false,
      alone-shown c.shared-n.result (drop c.shared-n.result c.args.x.now) c.args.x.ref_ptr,
      ← c.shared-n.ensures,
    )
