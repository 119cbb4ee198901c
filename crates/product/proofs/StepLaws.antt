-- Laws of the steps of a pair: which steps a row has, and how a caller's two loops, over the rows and over the steps of a row, pass all labels in
-- order. A row is the steps that take one transition on the left side, or those in which the left side rests. Assumes nothing.
use mathlib.Core.Path.{◌≡◌, refl, sym, ap, ◌∙◌}
use mathlib.Core.List.{List}
use mathlib.Core.Logic.{◌≢◌}
use Prim.Native.Nat.{ℕ, ◌+◌, ◌-◌, ◌/◌, ◌%◌, ◌≤◌, ◌<◌}
use native.Mathlib.Decide.{dec_lt}
use native.Mathlib.Omega.{arith}
use borrow.Author.Tests.{eq-eqb, ne_eqb}
use Rattle.product.specs.Machine.{key_of, Leaves, Along, Machine}
use Rattle.product.specs.Numbers.{no_transition, first_of, second_of, sides, label_of, Label}
use Rattle.product.specs.Steps.{row_key_of, Keyed, past_last, Least, RowFrom, Steps, StepFrom, Past}
use Rattle.product.specs.Steps.Steps.{by_both, by_left, by_right}

-- where the left side takes l the right side steps beside its key
pub key_taken : (m : List ℕ) (l : ℕ) → l < no_transition → row_key_of m l ≡ key_of m l
unfolding row_key_of
key_taken m l h = rw (ne_eqb l no_transition (λ z. omega arith))

-- where it rests, beside the key 0
pub key_rests : (m : List ℕ) (l : ℕ) → l ≡ no_transition → row_key_of m l ≡ 0
unfolding row_key_of
key_rests m l e = rw (eq-eqb l no_transition e)

module _ {left right : List ℕ} (on_left : Machine left) (on_right : Machine right) where
  -- the label of a step is one
  pub step_label : {u k : ℕ} → Steps left right u k → Label k
  step_label (by_both l m e x y i n) = (omega (arith, x.used, y.used, on_left.few, on_right.few), omega (arith, y.used, on_right.few))
  step_label (by_left l e x i) = (omega (arith, x.used, on_left.few), omega arith)
  step_label (by_right m e y i) = (omega (arith, y.used, on_right.few), omega (arith, y.used, on_right.few))

  -- what a step takes on each side leaves that side's state
  pub step_left : {u k : ℕ} → Steps left right u k → Along left (first_of u) (k / sides)
  step_left {u} {k} (by_both l m e x y i n) =
      let q : k / sides ≡ l = omega (arith, y.used, on_right.few) in
      rw q record { most = omega (arith, x.used, on_left.few); leaves = λ z. x }
  step_left {u} {k} (by_left l e x i) =
      let q : k / sides ≡ l = omega arith in
      rw q record { most = omega (arith, x.used, on_left.few); leaves = λ z. x }
  step_left {u} {k} (by_right m e y i) =
      let q : k / sides ≡ no_transition = omega (arith, y.used, on_right.few) in
      rw q record { most = omega arith; leaves = λ z. absurd (omega arith) }

  pub step_right : {u k : ℕ} → Steps left right u k → Along right (second_of u) (k % sides)
  step_right {u} {k} (by_both l m e x y i n) =
      let q : k % sides ≡ m = omega (arith, y.used, on_right.few) in
      rw q record { most = omega (arith, y.used, on_right.few); leaves = λ z. y }
  step_right {u} {k} (by_left l e x i) =
      let q : k % sides ≡ no_transition = omega arith in
      rw q record { most = omega arith; leaves = λ z. absurd (omega arith) }
  step_right {u} {k} (by_right m e y i) =
      let q : k % sides ≡ m = omega (arith, y.used, on_right.few) in
      rw q record { most = omega (arith, y.used, on_right.few); leaves = λ z. y }

  pub step_along : {u : ℕ} (l m : ℕ) → m ≤ no_transition → Steps left right u (label_of l m) → Along right (second_of u) m
  step_along l m h s = let e : label_of l m % sides ≡ m = omega arith in rw e at (step_right s)

  -- ---- the steps of a row

  -- the row of l has steps beside the key: the left side takes l, whose key is not 0, or it rests, which counts as the key 0
  pub data Row (u l key : ℕ) : Type 0 where
    takes : Leaves left l (first_of u) → key_of left l ≡ key → key ≢ 0 → Row u l key
    rests : l ≡ no_transition → key ≡ 0 → Row u l key

  -- beside a transition of the second state that has the key there is a step
  row_step : {u l key m : ℕ} → Row u l key → Keyed right (second_of u) key m → Steps left right u (label_of l m)
  row_step {l = l} {m = m} (takes x i n) y = by_both l m refl x y.leaves (i ∙ sym y.same) (λ z. n (sym i ∙ z))
  row_step {l = l} {m = m} (rests e z) y = by_right m (ap (λ j. label_of j m) e) y.leaves (y.same ∙ z)

  -- and there are no others
  row_only : {u key : ℕ} (l m : ℕ) → Row u l key → m ≤ no_transition → Steps left right u (label_of l m) → Keyed right (second_of u) key m
  row_only {u} {key} l m (takes x i n) h (by_both l' m' e x' y j z) =
      let few : m' < no_transition = omega (arith, y.used, on_right.few) in
      let q : l ≡ l' = omega arith in
      let p : m ≡ m' = omega arith in
      rw p record { leaves = y; same = sym j ∙ sym (ap (key_of left) q) ∙ i }
  row_only l m (takes x i n) h (by_left l' e x' j) =
      let q : l ≡ l' = omega arith in
      absurd (n (sym i ∙ ap (key_of left) q ∙ j))
  row_only l m (takes x i n) h (by_right m' e y j) = absurd (omega (arith, x.used, on_left.few, y.used, on_right.few))
  row_only l m (rests g z) h (by_both l' m' e x' y j w) = absurd (omega (arith, x'.used, y.used, on_left.few, on_right.few))
  row_only l m (rests g z) h (by_left l' e x' j) = absurd (omega (arith, x'.used, on_left.few))
  row_only l m (rests g z) h (by_right m' e y j) =
      let few : m' < no_transition = omega (arith, y.used, on_right.few) in
      let p : m ≡ m' = omega arith in
      rw p record { leaves = y; same = j ∙ sym z }

  -- where the left side rests, or takes a transition whose key is not 0, the row has steps beside its key
  pub row_beside : {u l key : ℕ} → Along left (first_of u) l → key ≡ row_key_of left l → (key ≡ 0 → l < no_transition → ⊥) → Row u l key
  row_beside {u} {l} {key} a e n = go (dec_lt l no_transition)
    where
      go : Dec (l < no_transition) → Row u l key
      go (yes h) = takes (a.leaves h) (sym (e ∙ key_taken left l h)) (λ z. n z h)
      go (no h) = let q : l ≡ no_transition = omega (arith, a.most) in rests q (e ∙ key_rests left l q)

  -- so it is where there is a step in which the right side does not rest
  pub row_there : {u l key m : ℕ} → Along left (first_of u) l → m < no_transition → Steps left right u (label_of l m) → key ≡ row_key_of left l → Row u l key
  row_there {u} {l} {key} {m} a h s e = row_beside a e (λ z b. apart b (sym (key_taken left l b) ∙ sym e ∙ z) s)
    where
      apart : l < no_transition → key_of left l ≡ 0 → Steps left right u (label_of l m) → ⊥
      apart b z (by_both l' m' d x y i n) =
          let few : m' < no_transition = omega (arith, y.used, on_right.few) in
          let q : l ≡ l' = omega arith in
          n (sym (ap (key_of left) q) ∙ z)
      apart b z (by_left l' d x i) = omega arith
      apart b z (by_right m' d y i) = omega (arith, y.used, on_right.few)

  -- so that the first step of a row takes the first transition that has the key
  pub row_first : {u l key low r : ℕ} → Row u l key → Least (Keyed right (second_of u) key) low r → StepFrom left right u l low r
  row_first {u} {l} {key} {low} {r} row x =
      record {
        above = x.above;
        most = x.most;
        has = λ z. row_step row (x.has z);
        none = λ m a b s. x.none m a b (row_only l m row (omega (arith, x.most)) s);
      }

  -- a transition whose key is 0 steps alone: the one step of its row is the last
  pub row_alone : {u l : ℕ} → Leaves left l (first_of u) → key_of left l ≡ 0 → StepFrom left right u l 0 no_transition
  row_alone {u} {l} x i = record { above = omega arith; most = omega arith; has = λ z. by_left l refl x i; none = none }
    where
      none : (m : ℕ) → 0 ≤ m → m < no_transition → Steps left right u (label_of l m) → ⊥
      none m a b (by_both l' m' e x' y j n) =
          let few : m' < no_transition = omega (arith, y.used, on_right.few) in
          let q : l ≡ l' = omega arith in
          n (sym (ap (key_of left) q) ∙ i)
      none m a b (by_left l' e x' j) = omega arith
      none m a b (by_right m' e y j) = omega (arith, x.used, on_left.few, y.used, on_right.few)

  -- after the step in which the right side rests the row has none
  pub row_over : {u m : ℕ} (l : ℕ) → m ≡ no_transition → StepFrom left right u l (m + 1) past_last
  row_over l e = record { above = omega arith; most = omega arith; has = λ z. absurd (omega arith); none = λ k a b s. omega arith }

-- ---- a caller's two loops

module _ {left right : List ℕ} where
  -- the loop over the steps of a row begins, and goes on: no step of the row comes before the first from `low` on
  pub past_steps : {u r start : ℕ} (row low : ℕ) → StepFrom left right u row low r → start ≡ label_of row low → Past left right u start (label_of row r)
  past_steps {u} {r} {start} row low f e = record { above = omega (arith, f.above); none = λ k a b s. go k (k - label_of row 0) a b s (omega arith) }
    where
      go : (k m : ℕ) → start ≤ k → k < label_of row r → Steps left right u k → k ≡ label_of row m → ⊥
      go k m a b s d = f.none m (omega arith) (omega arith) (rw d at s)

  module _ (on_left : Machine left) (on_right : Machine right) where
    -- the loop over the rows begins
    pub past_first_row : {u r : ℕ} → RowFrom left u 0 r → Past left right u 0 (label_of r 0)
    past_first_row f =
        record { above = omega arith; none = λ k a b s. f.none (k / sides) (omega arith) (omega arith) (step_left on_left on_right s) }

    -- it goes on, where the loop over the steps of the row has ended
    pub past_row_after : {u r : ℕ} (row m : ℕ) → past_last ≤ m → m ≤ past_last → RowFrom left u (row + 1) r → Past left right u (label_of row m) (label_of r 0)
    past_row_after {u} {r} row m h h' f =
        record { above = omega (arith, f.above); none = λ k a b s. go k a b s (dec_lt (k / sides) (row + 1)) }
      where
        go : (k : ℕ) → label_of row m ≤ k → k < label_of r 0 → Steps left right u k → Dec (k / sides < row + 1) → ⊥
        go k a b s (yes c) = omega (arith, (step_right on_left on_right s).most)
        go k a b s (no c) = f.none (k / sides) (omega arith) (omega arith) (step_left on_left on_right s)

    -- when it ends all steps have a lower label
    pub past_last_row : {u k row : ℕ} → past_last ≤ row → Steps left right u k → k < label_of row 0
    past_last_row h s = omega (arith, (step_label on_left on_right s).0)
