-- The sizes of document 01, "The translator". src/limits.rt has the same numbers.
use Rattle.std.specs.Prelude.{ℕ, ◌+◌, ◌-◌, ◌*◌}
use Rattle.transducer.specs.Limits.{most_states, most_outputs}

-- an input word has up to 255 codes
abbrev pub most_word : ℕ
most_word = 255

-- a node of the search is a position in the word, 0 to 255, and a state: 256 × 32 = 8,192
abbrev pub most_nodes : ℕ
most_nodes = (most_word + 1) * most_states

-- a path that visits no node twice has at most 256 × 32 - 1 transitions of 8 codes each: 8 × (256 × 32 - 1) = 65,528
abbrev pub most_written : ℕ
most_written = most_outputs * (most_nodes - 1)
