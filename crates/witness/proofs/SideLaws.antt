-- Laws of the sides of a walk that is given by the labels of its steps, and of the loop that writes one of them. Assumes nothing.
use mathlib.Core.Path.{◌≡◌, refl, ◌∙◌}
use mathlib.Core.Bool.{Bool, true, false, cond}
use mathlib.Core.List.{List, [], ◌∷◌, ◌++◌}
use mathlib.Core.Logic.{◌≢◌}
use Prim.Native.Nat.{ℕ, suc, ◌+◌, ◌/◌, ◌%◌, ◌≤◌, ◌<◌}
use native.Mathlib.Numerals.{add-one}
use native.Mathlib.Omega.{arith}
use borrow.Author.Tests.{eq-eqb, ne_eqb, eqb-true}
use lib.Dec.{eqb}
use lib.ListN.{length, get_or, drop, set, length-set, length-map, drop_of_length-le}
use lib.Seq.{sets, sets-eq, drop-cons}
use Rattle.transducer.specs.Walks.{both, left, right, left_in_of, right_in}
use Rattle.transducer.proofs.SizeLaws.{length_sides}
use Rattle.product.specs.Numbers.{no_transition, sides, Label, step_of}
use Rattle.buffers.specs.Put.{put}
use Rattle.witness.specs.Walk.{walk_of, side_of}
use Rattle.witness.specs.Sides.{Labels, taken_of, Front}

-- what a label takes on each side
step_takes : (k : ℕ) → Label k
    → (left_in_of (step_of k) ≡ cond (eqb (k / sides) no_transition) [] (k / sides ∷ []))
    × (right_in (step_of k) ≡ cond (eqb (k % sides) no_transition) [] (k % sides ∷ []))
unfolding step_of
step_takes k h = go (eqb (k / sides) no_transition) (eqb (k % sides) no_transition) refl refl
  where
    go : (a b : Bool) → eqb (k / sides) no_transition ≡ a → eqb (k % sides) no_transition ≡ b
        → (left_in_of (cond a (right (k % sides)) (cond b (left (k / sides)) (both (k / sides) (k % sides)))) ≡ cond a [] (k / sides ∷ []))
        × (right_in (cond a (right (k % sides)) (cond b (left (k / sides)) (both (k / sides) (k % sides)))) ≡ cond b [] (k % sides ∷ []))
    go true true e d = absurd (omega (arith, h.0, eqb-true (k / sides) no_transition e, eqb-true (k % sides) no_transition d))
    go true false e d = (refl, refl)
    go false true e d = (refl, refl)
    go false false e d = (refl, refl)

-- a side begins with what its first label takes
pub side_cons : (r : Bool) (k : ℕ) (labels : List ℕ) → Label k
    → side_of r (walk_of (k ∷ labels)) ≡ cond (eqb (taken_of r k) no_transition) [] (taken_of r k ∷ []) ++ side_of r (walk_of labels)
side_cons true k labels h = rw (step_takes k h).1
side_cons false k labels h = rw (step_takes k h).0

-- a label has at most `no_transition` on each side
pub taken_small : (r : Bool) (k : ℕ) → Label k → taken_of r k ≤ no_transition
taken_small true k h = h.1
taken_small false k h = omega (arith, h.0)

-- no label takes nothing
side_nil : (r : Bool) → side_of r [] ≡ []
side_nil true = refl
side_nil false = refl

-- a side is not longer than the walk
pub length_side : (r : Bool) (labels : List ℕ) → length (side_of r (walk_of labels)) ≤ length labels
length_side true labels = omega (arith, (length_sides (walk_of labels)).1, length-map labels step_of)
length_side false labels = omega (arith, (length_sides (walk_of labels)).0, length-map labels step_of)

-- ---- the loop of `write_side`

module _ (r : Bool) (labels entry : List ℕ) where
  -- the side of the walk from place i on
  abbrev pub rest : ℕ → List ℕ
  rest i = side_of r (walk_of (drop i labels))

  -- the loop has come to place i of the walk and place `to` of the buffer: with the rest of the side stored there, the whole side stands at
  -- the front
  pub record Writing (out : List ℕ) (to i : ℕ) : Type 0 where
    pub good : Labels labels
    pub room : length labels ≤ length entry
    pub kept : length out ≡ length entry
    pub within : i ≤ length labels
    pub behind : to ≤ i
    pub count : to + length (rest i) ≡ length (rest 0)
    pub stores : sets out to (rest i) ≡ sets entry 0 (rest 0)

  pub starts : Labels labels → length labels ≤ length entry → Writing entry 0 0
  starts g h =
      record { good = g; room = h; kept = refl; within = omega arith; behind = omega arith; count = omega arith; stores = refl }

  module _ {out : List ℕ} {to i : ℕ} (w : Writing out to i) where
    pub ends : length labels ≤ i → Front (length labels) (rest 0) entry out to
    unfolding put
    ends h =
        let n = rw (drop_of_length-le labels h, side_nil r) at w.count in
        let e = rw (drop_of_length-le labels h, side_nil r) at w.stores in
        let l = length_side r labels in
        record { count = omega arith; stores = e ∙ sets-eq (rest 0) entry 0 (omega arith); short = omega arith }

    module _ (l : ℕ) (h : i < length labels) (e : l ≡ taken_of r (get_or labels i 0)) where
      rest_is : rest i ≡ cond (eqb l no_transition) [] (l ∷ []) ++ rest (i + 1)
      rest_is = rw (drop-cons labels i 0, add-one, e) (side_cons r (get_or labels i 0) (drop (suc i) labels) (w.good i h))

      -- a label that takes no transition on the side
      pub passes : l ≡ no_transition → Writing out to (i + 1)
      passes n =
          let d : rest i ≡ rest (i + 1) = rw (eq-eqb l no_transition n) at rest_is in
          record {
            good = w.good;
            room = w.room;
            kept = w.kept;
            within = omega arith;
            behind = omega arith;
            count = rw (← d) w.count;
            stores = rw (← d) w.stores;
          }

      -- a label that takes one
      pub takes : l ≢ no_transition → Writing (set out to l) (to + 1) (i + 1)
      takes n =
          let d : rest i ≡ l ∷ rest (i + 1) = rw (ne_eqb l no_transition n) at rest_is in
          record {
            good = w.good;
            room = w.room;
            kept = rw length-set w.kept;
            within = omega arith;
            behind = omega arith;
            count = let c = rw d at w.count in omega arith;
            stores = rw (add-one to) (rw d at w.stores);
          }
