-- What the programs print, from the bytes of a table file and of an input word (document 01, "Writer and programs").
use Rattle.std.specs.Prelude.{cond, List, ℕ, ◌+◌, ◌≤◌, eqb, length, take, replicate}
use Rattle.buffers.specs.Put.{Puts}
use Rattle.records.specs.Letters.{most_bytes}
use Rattle.wordsearch.specs.Limits.{most_word}
use Rattle.witness.specs.Showing.{Buffers, x_in, y_in}
use Rattle.tablereader.specs.Outcome.{number_of, record_of}
use Rattle.engine.specs.Engine.{Judgement, FileTranslation, split_of, useful_of, counts_of, length_of, Judged, FileTranslated}
use Rattle.listing.specs.Listing.{verdict_listing, refusal_listing, translation_listing, most_steps, most_shown, most_translated}

-- how many bytes of a table file are read: one more than the longest has
abbrev pub read_bytes : ℕ
read_bytes = most_bytes + 1

-- how many codes of an input word are read: one more than the longest has
abbrev pub read_codes : ℕ
read_codes = most_word + 1

-- the five buffers that are lent for a verdict, each of its size in document 01, all zeros
unfoldable pub lent : Buffers
lent =
    record {
      word = replicate most_steps 0;
      path_a = replicate most_steps 0;
      path_b = replicate most_steps 0;
      output_x = replicate most_shown 0;
      output_y = replicate most_shown 0;
    }

-- what is printed of a judgement that leaves b in the buffers: the refusal where it has a number, else the verdict with the items that are counted and how
-- far the outputs agree
unfoldable pub judgement_listing : Judgement → Buffers → List ℕ
judgement_listing r b =
    cond (eqb (number_of r) 0)
    (verdict_listing (split_of r) (useful_of r) (take (counts_of r).word b.word) (take (counts_of r).path_a b.path_a)
    (take (counts_of r).path_b b.path_b) (x_in b (counts_of r)) (y_in b (counts_of r)) (counts_of r).shared)
    (refusal_listing (number_of r) (record_of r))

-- from the bytes f of a file the buffer that held out₀ holds out: the listing of a judgement of f stands at its front, its n bytes fit, and the
-- places beyond hold what they held
pub record VerdictReport (f out₀ out : List ℕ) (n : ℕ) : Type 0 where
  pub judgement : Judgement
  pub buffers : Buffers
  pub judged : Judged f lent buffers judgement
  pub puts : Puts out₀ 0 (judgement_listing judgement buffers) out n
  pub fits : n ≤ length out

-- what is printed of a translation that leaves out in its buffer: the refusal where it has a number, else the codes that are written
unfoldable pub answer_listing : FileTranslation → List ℕ → List ℕ
answer_listing q output = cond (eqb (number_of q) 0) (translation_listing (take (length_of q) output)) (refusal_listing (number_of q) (record_of q))

-- the buffer that is lent for a translation, all zeros
unfoldable pub lent_output : List ℕ
lent_output = replicate most_translated 0

-- from the bytes f of a file and those of an input word the buffer that held out₀ holds out: the listing of a translation stands at its front, its n
-- bytes fit, and the places beyond hold what they held
pub record TranslationReport (f input out₀ out : List ℕ) (n : ℕ) : Type 0 where
  pub answer : FileTranslation
  pub output : List ℕ
  pub translated : FileTranslated f input lent_output output answer
  pub puts : Puts out₀ 0 (answer_listing answer output) out n
  pub fits : n ≤ length out
