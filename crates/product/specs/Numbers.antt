-- The numbers by which a search over pairs of states knows the pairs and their steps.
use Rattle.std.specs.Prelude.{cond, ℕ, ◌+◌, ◌*◌, ◌/◌, ◌%◌, ◌≤◌, ◌<◌, eqb}
use Rattle.transducer.specs.Limits.{most_states, most_transitions}
use Rattle.transducer.specs.StateSet.{In}
use Rattle.transducer.specs.Walks.{Step, both, left, right, Move}
use Rattle.transducer.specs.declared.StateSet.{StateSet}
use Rattle.transducer.specs.declared.Transducer.{Transducer}

-- there are at most 32 × 32 = 1,024 pairs of states
abbrev pub most_pairs : ℕ
most_pairs = most_states * most_states

-- the pair (p, q) is number 32 p + q
abbrev pub pair_of : ℕ → ℕ → ℕ
pair_of p q = p * most_states + q

-- the two states of a pair
abbrev pub first_of : ℕ → ℕ
first_of v = v / most_states

abbrev pub second_of : ℕ → ℕ
second_of v = v % most_states

-- a side that takes no transition in a step counts as transition 256
abbrev pub no_transition : ℕ
no_transition = most_transitions

-- a side has 512 numbers, of which it uses 257: a power of two
abbrev pub sides : ℕ
sides = 2 * most_transitions

-- the label of the step that takes l on the left side and m on the right is 512 l + m
abbrev pub label_of : ℕ → ℕ → ℕ
label_of l m = l * sides + m

-- k can be the label of a step: each side of it is a transition's number or 256, and not both are 256
abbrev pub Label : ℕ → Type 0
Label k = (k < label_of no_transition no_transition) × (k % sides ≤ no_transition)

-- a number that stands for no label
abbrev pub no_step_of : ℕ
no_step_of = sides * sides

-- the first state of the pair v is in the one set, the second in the other
pub record PairIn (s s' : StateSet) (v : ℕ) : Type 0 where
  pub first : In s (first_of v)
  pub second : In s' (second_of v)

-- ---- the steps of one transducer

-- the step with the label k
unfoldable pub step_of : ℕ → Step
step_of k =
    cond (eqb (k / sides) no_transition) (right (k % sides))
    (cond (eqb (k % sides) no_transition) (left (k / sides)) (both (k / sides) (k % sides)))

-- the step with the label k leads from the pair u to the pair v
abbrev pub Moves : Transducer → ℕ → ℕ → ℕ → Type 0
Moves t u k v = Move t (first_of u) (second_of u) (step_of k) (first_of v) (second_of v)
