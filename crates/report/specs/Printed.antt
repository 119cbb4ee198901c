-- What document 01 has the programs print, said of the file and the input word alone. That the contracts promise this is `verdict_printed` and
-- `translation_printed` of proofs/PrintedLaws.antt; `first_bytes` of proofs/FirstLaws.antt is `FirstBytes`.
use Rattle.std.specs.Prelude.{◌≡◌, true, false, List, [], ◌≢◌, ℕ, ◌-◌, ◌*◌, take}
use Rattle.words.specs.Difference.{shared_of}
use Rattle.transducer.specs.Refusals as refusal
use Rattle.transducer.specs.Transition.{OutputWord, word_of, bytes_of}
use Rattle.transducer.specs.Paths.{Relates, Functional}
use Rattle.translator.specs.Words.{refusal_of}
use Rattle.witness.specs.Showing.{Buffers, Shown}
use Rattle.functionality.specs.Decided.{UsefulCount}
use Rattle.engine.specs.Engine.{number_of, record_of, Taken, table_of}
use Rattle.listing.specs.Listing.{verdict_listing, refusal_listing, translation_listing}
use Rattle.report.specs.Report.{read_bytes, read_codes}

-- the listing of the verdict on the file f
pub data VerdictPrinted (f listing : List ℕ) : Type 0 where
  -- a refused file: the reader's number and record
  refused : number_of f ≢ 0 → listing ≡ refusal_listing (number_of f) (record_of f) → VerdictPrinted f listing
  -- a functional transducer: single, and u
  single : {u : ℕ} → Taken f → Functional (table_of f) → UsefulCount (table_of f) u → listing ≡ verdict_listing false u [] [] [] [] [] 0
      → VerdictPrinted f listing
  -- any other: split, u, a witness whose word and paths have at most 2u - 1 items, and how many codes its outputs have in common at the beginning
  split : {u : ℕ} {s : Buffers} → Taken f → (Functional (table_of f) → ⊥) → UsefulCount (table_of f) u → Shown (table_of f) (2 * u - 1) s
      → listing ≡ verdict_listing true u s.word s.path_a s.path_b s.output_x s.output_y (shared_of s.output_x s.output_y)
      → VerdictPrinted f listing

-- the listing of the translation of an input word by the file f
pub data TranslationPrinted (f input listing : List ℕ) : Type 0 where
  -- a refused file: the reader's number and record
  refused : number_of f ≢ 0 → listing ≡ refusal_listing (number_of f) (record_of f) → TranslationPrinted f input listing
  -- a refused word: 9 or 10
  unfit : Taken f → refusal_of (table_of f) input ≢ 0 → listing ≡ refusal_listing (refusal_of (table_of f) input) 0 → TranslationPrinted f input listing
  -- a word that no accepting path reads: 11
  unread : Taken f → refusal_of (table_of f) input ≡ 0 → ((y : OutputWord) → Relates (table_of f) (word_of input) y → ⊥) → listing ≡ refusal_listing refusal.unread 0
      → TranslationPrinted f input listing
  -- any other: an output of the word; never 7
  written : {y : OutputWord} → Taken f → refusal_of (table_of f) input ≡ 0 → Relates (table_of f) (word_of input) y
      → listing ≡ translation_listing (bytes_of y) → TranslationPrinted f input listing

-- the programs read one byte more of a file than the longest has, and one code more of a word: what is printed of these is what document 01 has them
-- print of the whole file and the whole word
pub record FirstBytes : Type 0 where
  pub verdict : (f listing : List ℕ) → VerdictPrinted (take read_bytes f) listing → VerdictPrinted f listing
  pub translation : (f input listing : List ℕ) → TranslationPrinted (take read_bytes f) (take read_codes input) listing → TranslationPrinted f input listing
