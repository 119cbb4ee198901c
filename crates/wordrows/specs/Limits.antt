-- The sizes of document 02, job 1. src/limits.rt has the same numbers.
use Rattle.std.specs.Prelude.{ℕ, ◌+◌, ◌*◌}
use Rattle.transducer.specs.Limits.{most_states}

-- an input word has up to 63 codes
abbrev pub most_input : ℕ
most_input = 63

-- an output word has up to 127 codes
abbrev pub most_output : ℕ
most_output = 127

-- a cell has a place that says whether it has a mark, and one for each state
abbrev pub cell_places : ℕ
cell_places = most_states + 1

-- a row has a cell for each position in the output word, 0 to 127: 128 × 33 = 4,224 places
abbrev pub row_places : ℕ
row_places = (most_output + 1) * cell_places
