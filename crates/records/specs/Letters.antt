-- The letters and the end of the records of a table file, their sizes, and the length of the longest file (document 01, "The file").
use Rattle.std.specs.Prelude.{ℕ, ◌+◌, ◌*◌}
use Rattle.transducer.specs.Limits.{most_states, most_transitions, most_outputs}
use Rattle.records.specs.Field.{columns}

-- the letter of the first record, `T`
abbrev pub letter_t : ℕ
letter_t = 84

-- the letter of a start state, `S`
abbrev pub letter_s : ℕ
letter_s = 83

-- the letter of a final state, `F`
abbrev pub letter_f : ℕ
letter_f = 70

-- the letter of a transition, `L` (document 01: a line)
abbrev pub letter_l : ℕ
letter_l = 76

-- the byte that ends a record
abbrev pub record_end : ℕ
record_end = 10

-- the bytes of a record with so many fields: its letter, the fields and its end
abbrev pub record_size : ℕ → ℕ
record_size fields = 2 + columns * fields

-- the most fields of a record: four and the output codes of a transition
abbrev pub most_fields : ℕ
most_fields = 4 + most_outputs

-- the longest file: a header of four fields, every state as a start state and as a final state, and every transition with all its fields
abbrev pub most_bytes : ℕ
most_bytes = record_size 4 + 2 * most_states * record_size 1 + most_transitions * record_size most_fields
