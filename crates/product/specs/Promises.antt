-- What the verdict may take from this crate beside the contracts of its functions: the steps of pairs and their labels, as the definitions mean them.
-- `equations` cites the fields of `StepsPromised`, and no other law of this crate. `steps_promised` of proofs/Promises.antt proves it.
use Rattle.std.specs.Prelude.{◌≡◌, false, List, ℕ, ◌+◌, ◌≤◌, ◌<◌}
use Rattle.transducer.specs.Limits.{most_transitions}
use Rattle.transducer.specs.Valid.{Valid}
use Rattle.transducer.specs.Walks.{both, left, right, Edge}
use Rattle.transducer.specs.declared.Transducer.{Transducer}
use Rattle.product.specs.Numbers.{most_pairs, no_transition, label_of, Label, step_of, Moves}
use Rattle.product.specs.Machine.{Machine, ImageOf}
use Rattle.product.specs.Steps.{past_last, RowFrom, Steps, target_of, StepFrom, Past}

pub record StepsPromised : Type 0 where
  -- a transition in use has a number below most_transitions, and the label of a step tells the transitions that it takes
  pub edge_number : {t : Transducer} → Valid t → {l p p' : ℕ} → Edge t l p p' → l < most_transitions
  pub both_label : (l m : ℕ) → l < most_transitions → m < most_transitions → step_of (label_of l m) ≡ both l m
  pub left_label : (l : ℕ) → l < most_transitions → step_of (label_of l no_transition) ≡ left l
  pub right_label : (m : ℕ) → m < most_transitions → step_of (label_of no_transition m) ≡ right m
  -- what leads from a pair to a pair as a step has the label of one
  pub label_low : {t : Transducer} → Valid t → (u k v : ℕ) → Moves t u k v → Label k
  -- by input codes, the steps of a transducer's machine with itself are the steps of the transducer, and back
  pub steps_move : {t : Transducer} {m : List ℕ} → ImageOf t false m → {u k v : ℕ} → Steps m m u k → target_of m m u k ≡ v → Moves t u k v
  pub move_steps : {t : Transducer} {m : List ℕ} → ImageOf t false m → {u k : ℕ} (v : ℕ) → Moves t u k v → Steps m m u k × (target_of m m u k ≡ v)
  -- a step of two machines has the label of one, and leads from a pair to a pair
  pub step_label : {m m' : List ℕ} → Machine m → Machine m' → {u k : ℕ} → Steps m m' u k → Label k
  pub target_low : {m m' : List ℕ} → Machine m → Machine m' → {u k : ℕ} → u < most_pairs → Steps m m' u k → target_of m m' u k < most_pairs
  -- who takes the rows of a pair one after the other, and the steps of each row, passes all of its steps in the order of their labels: no step comes
  -- before the first row, before the first step of a row from a place on, or between the end of a row and the next row; and none behind the last
  pub past_first_row : {m m' : List ℕ} → Machine m → Machine m' → {u r : ℕ} → RowFrom m u 0 r → Past m m' u 0 (label_of r 0)
  pub past_steps : {m m' : List ℕ} {u r start : ℕ} (row low : ℕ) → StepFrom m m' u row low r → start ≡ label_of row low → Past m m' u start (label_of row r)
  pub past_row_after : {m m' : List ℕ} → Machine m → Machine m' → {u r : ℕ} (row end : ℕ) → past_last ≤ end → end ≤ past_last
      → RowFrom m u (row + 1) r → Past m m' u (label_of row end) (label_of r 0)
  pub past_last_row : {m m' : List ℕ} → Machine m → Machine m' → {u k row : ℕ} → past_last ≤ row → Steps m m' u k → k < label_of row 0
