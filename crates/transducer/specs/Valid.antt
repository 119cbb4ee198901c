-- The rules of a transducer's value (document 01, "Codes and tables"), as facts and as a test that computes.
use Rattle.std.specs.Prelude.{◌≡◌, Bool, true, cond, ◌&&◌, ◌||◌, not, ℕ, zero, suc, ◌≤◌, ◌<◌, eqb, leb, ltb, length}
use Rattle.transducer.specs.Limits.{most_states, most_transitions, most_outputs, most_code}
use Rattle.transducer.specs.StateSet.{has, In}
use Rattle.transducer.specs.Transition.{at, output_at}
use Rattle.transducer.specs.declared.Transition.{Transition}
use Rattle.transducer.specs.declared.StateSet.{StateSet}
use Rattle.transducer.specs.declared.Transducer.{Transducer}

-- the code at place j of a transition's output, as a number
abbrev pub code_at : Transition → ℕ → ℕ
code_at v j = (output_at v j).0

-- ---- the rules as facts

-- a transition in use, among n states: it leaves and enters a state, its input is 0 or a code, it has at most most_outputs output codes,
-- and the places beyond hold 0
pub record Used (n : ℕ) (v : Transition) : Type 0 where
  pub from_state : v.from < n
  pub to_state : v.to < n
  pub input_code : v.input.0 ≤ most_code
  pub few_outputs : v.count ≤ most_outputs
  pub least_code : (j : ℕ) → j < v.count → 1 ≤ code_at v j
  pub largest_code : (j : ℕ) → j < v.count → code_at v j ≤ most_code
  pub beyond_zero : (j : ℕ) → v.count ≤ j → j < most_outputs → code_at v j ≡ 0

-- a transition that is not in use: every place holds 0
pub record Clear (v : Transition) : Type 0 where
  pub from_zero : v.from ≡ 0
  pub to_zero : v.to ≡ 0
  pub input_zero : v.input.0 ≡ 0
  pub count_zero : v.count ≡ 0
  pub outputs_zero : (j : ℕ) → j < most_outputs → code_at v j ≡ 0

-- 1 to most_states states; start and final states are among them; at most most_transitions transitions; places beyond the counts hold 0
pub record Valid (t : Transducer) : Type 0 where
  pub some_state : 1 ≤ t.states
  pub few_states : t.states ≤ most_states
  pub start_state : (q : ℕ) → In t.starts q → q < t.states
  pub final_state : (q : ℕ) → In t.finals q → q < t.states
  pub few_transitions : t.count ≤ most_transitions
  pub used : (l : ℕ) → l < t.count → Used t.states (at t l)
  pub beyond_clear : (l : ℕ) → t.count ≤ l → l < most_transitions → Clear (at t l)

-- ---- the same as a test

-- f holds of each number below n
unfoldable pub all_below : ℕ → (ℕ → Bool) → Bool
all_below zero f = true
all_below (suc n) f = all_below n f && f n

-- the number is a code: 1 to most_code
abbrev pub is_code : ℕ → Bool
is_code c = leb 1 c && leb c most_code

-- place j of an output: below the count a code, from there on 0
unfoldable pub code_of : Transition → ℕ → Bool
code_of v j = cond (ltb j v.count) (is_code (code_at v j)) (eqb (code_at v j) 0)

-- every place of it
unfoldable pub codes_of : Transition → Bool
codes_of v = all_below most_outputs (code_of v)

-- the fields of a transition in use, among n states, but for its output
unfoldable pub used_of : ℕ → Transition → Bool
used_of n v = ltb v.from n && ltb v.to n && leb v.input.0 most_code && leb v.count most_outputs

-- a transition in use, among n states: `Used`, as a test
unfoldable pub line_of : ℕ → Transition → Bool
line_of n v = used_of n v && codes_of v

-- the fields of a transition that is not in use, but for its output
unfoldable pub clear_of : Transition → Bool
clear_of v = eqb v.from 0 && eqb v.to 0 && eqb v.input.0 0 && eqb v.count 0

-- transition l: below the count one in use, from there on one that is not
unfoldable pub place_of : Transducer → ℕ → Bool
place_of t l = cond (ltb l t.count) (line_of t.states (at t l)) (clear_of (at t l) && codes_of (at t l))

-- no state from n on is in the set
unfoldable pub set_of : ℕ → StateSet → Bool
set_of n s = all_below most_states (λ q. ltb q n || not (has s q))

-- the transducer keeps every rule
unfoldable pub valid_of : Transducer → Bool
valid_of t =
    leb 1 t.states && leb t.states most_states && set_of t.states t.starts && set_of t.states t.finals
    && leb t.count most_transitions && all_below most_transitions (place_of t)

-- ---- what holds of every value of the type, by its declaration

-- the arrays have their declared lengths
pub record Shaped (t : Transducer) : Type 0 where
  pub starts : length t.starts.member ≡ most_states
  pub finals : length t.finals.member ≡ most_states
  pub transitions : length t.transitions ≡ most_transitions
  pub outputs : (l : ℕ) → l < most_transitions → length (at t l).output ≡ most_outputs
  pub useful : length t.useful.member ≡ most_states

-- what `valid` answers: whether the transducer keeps the rules; and that its arrays have their lengths
pub record Tested (t : Transducer) (r : Bool) : Type 0 where
  pub answer : r ≡ valid_of t
  pub shaped : Shaped t
