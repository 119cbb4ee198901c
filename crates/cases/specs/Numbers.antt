-- The sizes and refusal numbers of documents 00, 01 and 02 that are in force, as numbers, each once: a request that moves one moves its line here.
use Rattle.std.specs.Prelude.{◌≡◌, [], ◌∷◌, ◌-◌, replicate}
use Rattle.transducer.specs.Limits.{most_states, most_transitions, most_outputs, most_code}
use Rattle.transducer.specs.Refusals.{too_short_of, invalid, word_too_long, no_input_code, unread, words_too_long, no_output_code, more_than_one_code, many_pairs}
use Rattle.transducer.specs.Refusals.{many_transitions, no_such_transition, wrong_transition}
use Rattle.product.specs.Numbers.{most_pairs}
use Rattle.wordsearch.specs.Limits.{most_word, most_nodes, most_written}
use Rattle.wordrows.specs.Limits.{most_input, most_output}
use Rattle.witness.specs.Sides.{most_steps, most_shown}
use Rattle.records.specs.Letters.{most_bytes}
use Rattle.translator.specs.Words.{refusal_of}
use Rattle.held.specs.Held.{held_size}
use Rattle.report.specs.Report.{read_bytes, read_codes}
use Rattle.cases.specs.Cases.{one_state_of}

pub record Sizes : Type 0 where
  -- "A table has n states, 1 to 32"
  pub states : most_states ≡ 32
  -- "k lines, 0 to 256"
  pub lines : most_transitions ≡ 256
  -- "0 to 8 output codes"
  pub outputs : most_outputs ≡ 8
  -- "Input codes and output codes are 1 to 250"
  pub codes : most_code ≡ 250
  -- "u is the number of useful pairs, at most 1,024"
  pub pairs : most_pairs ≡ 1024
  -- "the cue (2,047 places), path A and path B (2,047 line numbers each)"
  pub steps : most_steps ≡ 2047
  -- "outputs X and Y of A and B (16,376 places each)"
  pub shown : most_shown ≡ 16376
  -- "a cue of up to 255 codes"
  pub word : most_word ≡ 255
  -- the lines of a path that visits no position and state twice
  pub path : most_nodes - 1 ≡ 8191
  -- "No more than 65,528 codes are ever written"
  pub written : most_written ≡ 65528
  -- "at most 13,202" bytes
  pub file : most_bytes ≡ 13202
  -- "standard input (the first 13,203 bytes)"
  pub file_read : read_bytes ≡ 13203
  -- "a cue from standard input (the first 256 bytes)"
  pub word_read : read_codes ≡ 256
  -- document 02, job 1: "a cue of up to 63 codes and an output of up to 127"
  pub tested_input : most_input ≡ 63
  pub tested_output : most_output ≡ 127
  -- the library's own: the places of a held table
  pub held : held_size ≡ 3171

-- the refusals that document 01's table has besides those of a file, which specs/Files.antt shows; and document 02's
pub record RefusalNumbers : Type 0 where
  pub too_short : too_short_of ≡ 7
  pub broken : invalid ≡ 8
  pub long_word : word_too_long ≡ 9
  pub no_input_code_number : no_input_code ≡ 10
  pub not_read : unread ≡ 11
  pub long_words : words_too_long ≡ 13
  pub no_output_code_number : no_output_code ≡ 14
  pub more_than_one : more_than_one_code ≡ 15
  pub many_pairs_number : many_pairs ≡ 16
  pub many_lines : many_transitions ≡ 17
  pub no_such_line : no_such_transition ≡ 18
  pub wrong_line : wrong_transition ≡ 19

-- "255 codes taken, 256 gives 9": what the translator refuses before it looks for a path, on one state without lines
pub record WordsTaken : Type 0 where
  pub taken : refusal_of (one_state_of []) (replicate 255 250) ≡ 0
  pub too_long : refusal_of (one_state_of []) (replicate 256 1) ≡ 9
  pub zero_code : refusal_of (one_state_of []) (0 ∷ []) ≡ 10
  pub over_250 : refusal_of (one_state_of []) (251 ∷ []) ≡ 10
  pub length_first : refusal_of (one_state_of []) (replicate 256 0) ≡ 9
