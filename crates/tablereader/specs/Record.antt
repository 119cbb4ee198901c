-- The records of a table file, described by the ranges of their fields (document 01, "The file"), and their sizes.
use Rattle.std.specs.Prelude.{List, [], ◌∷◌, ℕ, ◌+◌, ◌-◌, ◌*◌, replicate}
use Rattle.transducer.specs.Limits.{most_states, most_transitions, most_outputs, most_code}
use Rattle.records.specs.Letters.{record_size, most_fields}
use Rattle.records.specs.Reading.{range}
use Rattle.records.specs.declared.reading.Range.{Range}

-- `T`: n; the counts of start states and of final states; k
abbrev pub header_ranges : List Range
header_ranges = range 1 most_states ∷ range 0 most_states ∷ range 0 most_states ∷ range 0 most_transitions ∷ []

-- `S` and `F`: a state of n, which is at least `least`
abbrev pub state_ranges : ℕ → ℕ → List Range
state_ranges n least = record { low = 0; high = n - 1; least = least } ∷ []

-- `L`: the state of n that is left, the one that is entered, the input, the count of output codes, and so many output codes
abbrev pub transition_ranges : ℕ → ℕ → List Range
transition_ranges n count =
    range 0 (n - 1) ∷ range 0 (n - 1) ∷ range 0 most_code ∷ range 0 most_outputs ∷ replicate count (range 1 most_code)

-- the bytes of the header
abbrev pub header_size : ℕ
header_size = record_size 4

-- the bytes of a state's record
abbrev pub state_size : ℕ
state_size = record_size 1

-- the most bytes of a transition's record
abbrev pub transition_size : ℕ
transition_size = record_size most_fields

-- the most records: the header, every state as a start state and as a final state, and every transition
abbrev pub most_records : ℕ
most_records = 1 + 2 * most_states + most_transitions
