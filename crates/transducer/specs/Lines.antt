-- A transducer as its number of states, its two sets of states and the list of its transitions (document 01: lines).
use mathlib.Core.List.{List, [], ◌∷◌, ◌++◌, Memᴰ}
use Rattle.std.specs.Prelude.{ℕ, suc, ◌-◌, ◌≤◌, ◌<◌, length, take, drop, replicate}
use Rattle.transducer.specs.Limits.{most_states, most_transitions}
use Rattle.transducer.specs.StateSet.{In}
use Rattle.transducer.specs.Transition.{at, firsts}
use Rattle.transducer.specs.Blank.{clear_transition}
use Rattle.transducer.specs.Valid.{Used}
use Rattle.transducer.specs.Kept.{useful_set}
use Rattle.transducer.specs.declared.StateSet.{StateSet}
use Rattle.transducer.specs.declared.Transition.{Transition}
use Rattle.transducer.specs.declared.Transducer.{Transducer}

-- the transitions in use, in their order
abbrev pub lines_of : Transducer → List Transition
lines_of t = firsts t.count (at t)

-- the transducer with n states, these start and final states and these transitions, whose useful states it keeps; the places beyond hold 0
unfoldable pub transducer_of : ℕ → StateSet → StateSet → List Transition → Transducer
transducer_of n starts finals lines =
    record {
      states = n;
      starts = starts;
      finals = finals;
      count = length lines;
      transitions = lines ++ replicate (most_transitions - length lines) clear_transition;
      useful = useful_set n starts finals lines;
    }

-- the useful states of t, worked out
abbrev pub useful_in : Transducer → StateSet
useful_in t = useful_set t.states t.starts t.finals (lines_of t)

-- t, keeping the set s, whatever it kept
abbrev pub keeping_set : Transducer → StateSet → Transducer
keeping_set t s = record { states = t.states; starts = t.starts; finals = t.finals; count = t.count; transitions = t.transitions; useful = s }

-- t, keeping its useful states
unfoldable pub keeping : Transducer → Transducer
keeping t = keeping_set t (useful_in t)

-- t with the line v behind its last
abbrev pub appended : Transducer → Transition → Transducer
appended t v = transducer_of t.states t.starts t.finals (lines_of t ++ (v ∷ []))

-- lines without line l: those after it move down one
unfoldable pub without : ℕ → List Transition → List Transition
without l lines = take l lines ++ drop (suc l) lines

-- t without its line l
abbrev pub removed : Transducer → ℕ → Transducer
removed t l = transducer_of t.states t.starts t.finals (without l (lines_of t))

-- v is one of the lines
abbrev pub Among : Transition → List Transition → Type 0
Among v lines = Memᴰ v lines

-- each of these lines is one of those
abbrev pub AllAmong : List Transition → List Transition → Type 0
AllAmong lines lines' = (v : Transition) → Among v lines → Among v lines'

-- what makes a transducer that keeps the rules
pub record Keeps (n : ℕ) (starts finals : StateSet) (lines : List Transition) : Type 0 where
  pub some_state : 1 ≤ n
  pub few_states : n ≤ most_states
  pub start_state : (q : ℕ) → In starts q → q < n
  pub final_state : (q : ℕ) → In finals q → q < n
  pub few_lines : length lines ≤ most_transitions
  pub used : (v : Transition) → Among v lines → Used n v
