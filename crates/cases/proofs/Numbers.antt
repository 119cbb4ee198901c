-- Sizes and refusals are the documents' numbers. Assumes nothing.
use mathlib.Core.Path.{refl}
use Rattle.transducer.specs.Valid.{all_below}
use Rattle.transducer.specs.Codes.{all_codes}
use Rattle.translator.specs.Words.{refusal_of}
use Rattle.cases.specs.Numbers.{Sizes, RefusalNumbers, WordsTaken}
use Rattle.cases.proofs.Tables.{no_lines_valid}

pub sizes : Sizes
sizes =
    record {
      states = refl;
      lines = refl;
      outputs = refl;
      codes = refl;
      pairs = refl;
      steps = refl;
      shown = refl;
      word = refl;
      path = refl;
      written = refl;
      file = refl;
      file_read = refl;
      word_read = refl;
      tested_input = refl;
      tested_output = refl;
      held = refl;
    }

pub refusal_numbers : RefusalNumbers
refusal_numbers =
    record {
      too_short = refl;
      broken = refl;
      long_word = refl;
      no_input_code_number = refl;
      not_read = refl;
      long_words = refl;
      no_output_code_number = refl;
      more_than_one = refl;
      many_pairs_number = refl;
      many_lines = refl;
      no_such_line = refl;
      wrong_line = refl;
    }

pub words_taken : WordsTaken
unfolding refusal_of all_codes all_below
words_taken =
    record {
      taken = rw no_lines_valid refl;
      too_long = rw no_lines_valid refl;
      zero_code = rw no_lines_valid refl;
      over_250 = rw no_lines_valid refl;
      length_first = rw no_lines_valid refl;
    }
