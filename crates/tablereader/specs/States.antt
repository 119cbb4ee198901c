-- The records `S` and `F`: one state each, strictly rising.
use Rattle.std.specs.Prelude.{List, ℕ, zero, suc, ◌+◌, Ok, get_or}
use Rattle.records.specs.Reading.{record_at}
use Rattle.records.specs.declared.reading.Number.{Number}
use Rattle.records.specs.declared.reading.Record.{Record}
use Rattle.transducer.specs.StateSet.{no_states, with_state}
use Rattle.transducer.specs.declared.StateSet.{StateSet}
use Rattle.tablereader.specs.Outcome.{Outcome, outcome_for, ◌▸◌}
use Rattle.tablereader.specs.Record.{state_ranges, state_size}
use Rattle.tablereader.specs.declared.states.States.{States}

-- the state that a record gives, with its fault
abbrev pub state_of : Record → Number
state_of r = record { fault = r.fault; value = get_or r.values 0 0 }

-- the record at a place, whose state is below n and at least `low`
unfoldable pub state_record_of : List ℕ → ℕ → ℕ → ℕ → ℕ → Number
state_record_of text letter n at low = state_of (record_at text at letter (state_ranges n low))

-- so many records from a place, the next of them record `rec`, after an outcome and a set of states; each state is at least `low`, which is one more
-- than the state before
unfoldable pub read_states_of : ℕ → List ℕ → ℕ → ℕ → ℕ → ℕ → ℕ → Outcome → StateSet → States
read_states_of zero text letter n at low rec outcome states = record { outcome = outcome; set = states }
read_states_of (suc k) text letter n at low rec outcome states =
    let state = state_record_of text letter n at low in
    read_states_of k text letter n (at + state_size) (state.value + 1) (rec + 1) (outcome ▸ outcome_for state.fault rec) (with_state states state.value)

-- so many records from a place, the first of them record `first`
unfoldable pub states_from : ℕ → List ℕ → ℕ → ℕ → ℕ → ℕ → States
states_from count text letter n at first = read_states_of count text letter n at 0 first (Ok tt) no_states
