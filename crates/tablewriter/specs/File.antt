-- The bytes of a table file (document 01, "The file"), record by record: `T`, an `S` for each start state, an `F` for each final state, an `L` for
-- each transition.
use Rattle.std.specs.Prelude.{cond, ℕ, zero, suc, ◌+◌, length}
use mathlib.Core.List.{List, [], ◌∷◌, ◌++◌, flat_map}
use Rattle.records.specs.Field.{columns}
use Rattle.records.specs.Letters.{letter_t, letter_s, letter_f, letter_l}
use Rattle.records.specs.Record.{record_bytes}
use Rattle.transducer.specs.Limits.{most_states}
use Rattle.transducer.specs.StateSet.{has}
use Rattle.transducer.specs.Transition.{bytes_of, at, firsts, written_by}
use Rattle.transducer.specs.declared.StateSet.{StateSet}
use Rattle.transducer.specs.declared.Transition.{Transition}
use Rattle.transducer.specs.declared.Transducer.{Transducer}

-- ---- sets of states

-- the state q where it is in the set, else nothing
unfoldable pub state_at : StateSet → ℕ → List ℕ
state_at s q = cond (has s q) (q ∷ []) []

-- the states of a set below n, rising
unfoldable pub states_below : ℕ → StateSet → List ℕ
states_below zero s = []
states_below (suc n) s = states_below n s ++ state_at s n

-- the states of a set, rising
abbrev pub states_of : StateSet → List ℕ
states_of s = states_below most_states s

-- how many states are in a set
unfoldable pub size_of : StateSet → ℕ
size_of s = length (states_of s)

-- a record for each of the states
unfoldable pub state_bytes : ℕ → List ℕ → List ℕ
state_bytes letter states = flat_map (λ q. record_bytes columns letter (q ∷ [])) states

-- ---- transitions

-- the record of a transition: the states that it leaves and enters, its input, the count of its outputs, and the outputs
unfoldable pub transition_bytes : Transition → List ℕ
transition_bytes v = record_bytes columns letter_l (v.from ∷ v.to ∷ v.input.0 ∷ v.count ∷ bytes_of (written_by v))

-- a record for each of the transitions below n
unfoldable pub transition_bytes_below : Transducer → ℕ → List ℕ
transition_bytes_below t n = flat_map transition_bytes (firsts n (at t))

-- how many output codes the transitions below n have
unfoldable pub outputs_below : Transducer → ℕ → ℕ
outputs_below t zero = 0
outputs_below t (suc n) = outputs_below t n + (at t n).count

-- how many output codes all transitions have
abbrev pub all_outputs : Transducer → ℕ
all_outputs t = outputs_below t t.count

-- ---- the file

-- the first record: n, how many start states and final states there are, k
unfoldable pub header_bytes : Transducer → List ℕ
header_bytes t = record_bytes columns letter_t (t.states ∷ size_of t.starts ∷ size_of t.finals ∷ t.count ∷ [])

-- the bytes of the file
unfoldable pub write_of : Transducer → List ℕ
write_of t =
    header_bytes t ++ state_bytes letter_s (states_of t.starts) ++ state_bytes letter_f (states_of t.finals) ++ transition_bytes_below t t.count
