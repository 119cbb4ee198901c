-- Laws of the numbers of pairs and of the labels of steps: each label of a step decodes to that step, and a step that leads from a pair to a pair
-- has such a label.
-- Assumes nothing.
use mathlib.Core.Path.{◌≡◌, refl}
use mathlib.Core.Bool.{Bool, true, false, cond}
use mathlib.Core.Logic.{◌≢◌}
use Prim.Native.Nat.{ℕ, ◌/◌, ◌%◌, ◌≤◌, ◌<◌}
use native.Mathlib.Omega.{arith}
use borrow.Author.Tests.{ne_eqb, eqb-true}
use lib.Dec.{eqb}
use Rattle.transducer.specs.Limits.{most_states, most_transitions}
use Rattle.transducer.specs.Valid.{Valid}
use Rattle.transducer.specs.Transition.{at}
use Rattle.transducer.specs.Walks.{both, left, right, Edge, Move}
use Rattle.transducer.specs.declared.Transducer.{Transducer}
use Rattle.product.specs.Machine.{key_for_of}
use Rattle.product.specs.Numbers.{no_transition, pair_of, first_of, second_of, sides, label_of, Label, step_of, Moves}

-- ---- the number of a pair has its two states

pub pair_first : (p q : ℕ) → q < most_states → first_of (pair_of p q) ≡ p
pair_first p q h = omega arith

pub pair_second : (p q : ℕ) → q < most_states → second_of (pair_of p q) ≡ q
pair_second p q h = omega arith

pub pair_again : (v : ℕ) → pair_of (first_of v) (second_of v) ≡ v
pair_again v = omega arith

-- ---- the three kinds of label decode back

pub both_label : (l m : ℕ) → l < most_transitions → m < most_transitions → step_of (label_of l m) ≡ both l m
unfolding step_of
both_label l m h k =
    let e : label_of l m / sides ≡ l = omega arith in
    let d : label_of l m % sides ≡ m = omega arith in
    rw (e, d, ne_eqb l no_transition (λ z. omega arith), ne_eqb m no_transition (λ z. omega arith))

pub left_label : (l : ℕ) → l < most_transitions → step_of (label_of l no_transition) ≡ left l
unfolding step_of
left_label l h =
    let e : label_of l no_transition / sides ≡ l = omega arith in
    let d : label_of l no_transition % sides ≡ no_transition = omega arith in
    rw (e, d, ne_eqb l no_transition (λ z. omega arith))

pub right_label : (m : ℕ) → m < most_transitions → step_of (label_of no_transition m) ≡ right m
unfolding step_of
right_label m h =
    let e : label_of no_transition m / sides ≡ no_transition = omega arith in
    let d : label_of no_transition m % sides ≡ m = omega arith in
    rw (e, d)

-- ---- a step that leads from a pair to a pair, by its label

-- what the label k of a step from u to v says, of two transducers with keys: a transition of each with the same key, or one alone whose key is 0
pub data Labelled (t : Transducer) (written : Bool) (t' : Transducer) (written' : Bool) (u k v : ℕ) : Type 0 where
  by_both : (l m : ℕ) → k ≡ label_of l m → Edge t l (first_of u) (first_of v) → Edge t' m (second_of u) (second_of v)
      → key_for_of written (at t l) ≡ key_for_of written' (at t' m) → key_for_of written (at t l) ≢ 0 → Labelled t written t' written' u k v
  by_left : (l : ℕ) → k ≡ label_of l no_transition → Edge t l (first_of u) (first_of v) → second_of u ≡ second_of v
      → key_for_of written (at t l) ≡ 0 → Labelled t written t' written' u k v
  by_right : (m : ℕ) → k ≡ label_of no_transition m → first_of u ≡ first_of v → Edge t' m (second_of u) (second_of v)
      → key_for_of written' (at t' m) ≡ 0 → Labelled t written t' written' u k v

-- of one transducer with its input codes: its steps
abbrev pub Itself : Transducer → ℕ → ℕ → ℕ → Type 0
Itself t u k v = Labelled t false t false u k v

module _ (t : Transducer) (u : ℕ) where
  -- each step has such a label
  pub labelled : (k v : ℕ) → Moves t u k v → Itself t u k v
  unfolding step_of
  labelled k v h = go (eqb (k / sides) no_transition) (eqb (k % sides) no_transition) refl refl h
    where
      go : (a b : Bool) → eqb (k / sides) no_transition ≡ a → eqb (k % sides) no_transition ≡ b
          → Move t (first_of u) (second_of u) (cond a (right (k % sides)) (cond b (left (k / sides)) (both (k / sides) (k % sides)))) (first_of v) (second_of v)
          → Itself t u k v
      go true b e d h =
          let q = eqb-true (k / sides) no_transition e in
          by_right (k % sides) (omega arith) h.0 h.1 h.2
      go false true e d h =
          let q = eqb-true (k % sides) no_transition d in
          by_left (k / sides) (omega arith) h.0 h.1 h.2
      go false false e d h = by_both (k / sides) (k % sides) (omega arith) h.0 h.1 h.2.0 h.2.1

  -- and each such label is a step's
  pub labelled_moves : t.count ≤ most_transitions → (k v : ℕ) → Itself t u k v → Moves t u k v
  labelled_moves few k v (Labelled.by_both l m e a b i z) = rw (e, both_label l m (omega (arith, a.used)) (omega (arith, b.used))) (a, b, (i, z))
  labelled_moves few k v (Labelled.by_left l e a f i) = rw (e, left_label l (omega (arith, a.used))) (a, f, i)
  labelled_moves few k v (Labelled.by_right m e f b i) = rw (e, right_label m (omega (arith, b.used))) (f, b, i)

module _ {t : Transducer} (valid : Valid t) where
  -- a transition in use leads to a state of the transducer
  pub edge_state : {l p p' : ℕ} → Edge t l p p' → p' < t.states
  edge_state {l} e = omega (arith, e.target, (valid.used l e.used).to_state)

  -- and has a number below 256
  pub edge_number : {l p p' : ℕ} → Edge t l p p' → l < most_transitions
  edge_number e = omega (arith, e.used, valid.few_transitions)

  -- the label of a step is one
  pub label_low : (u k v : ℕ) → Moves t u k v → Label k
  label_low u k v move = go (labelled t u k v move)
    where
      go : Itself t u k v → Label k
      go (Labelled.by_both l m e a b i n) = (omega (arith, edge_number a, edge_number b), omega (arith, edge_number a, edge_number b))
      go (Labelled.by_left l e a f i) = (omega (arith, edge_number a), omega (arith, edge_number a))
      go (Labelled.by_right m e f b i) = (omega (arith, edge_number b), omega (arith, edge_number b))
