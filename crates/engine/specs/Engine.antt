-- What becomes of a table file: read and judged, or read and used for a translation. Document 01 leaves open which input word, which two paths and so
-- which outputs a split verdict shows (`Showing`), and on a split table which accepting path a translation follows, and so whether 7 is given
-- (`Translated`). All else is determined: `judged_determined`, `file_translated_determined` and `file_refusal_determined` of proofs/EngineLaws.antt.
use Rattle.std.specs.Prelude.{◌≡◌, Bool, false, List, ◌≢◌, ℕ, is_some, None, Result, Ok, Err}
use Rattle.transducer.specs.declared.Transducer.{Transducer}
use Rattle.transducer.specs.declared.refusals.Refusal.{Refusal}
use Rattle.tablereader.specs.Outcome as outcome
use Rattle.tablereader.specs.Outcome.{table_of_reading, before_records, ◌▸◌}
use Rattle.tablereader.specs.Reader.{read_of}
use Rattle.tablereader.specs.declared.FileRefusal.{FileRefusal}
use Rattle.translator.specs.Translated.{Translated}
use Rattle.witness.specs.Showing.{Buffers, x_in, y_in}
use Rattle.witness.specs.declared.Counts.{Counts}
use Rattle.functionality.specs.Decided.{Decided, no_counts, counts_in}
use Rattle.functionality.specs.declared.Verdict.{Verdict}

-- ---- the file

-- document 01's number for what the reader makes of a file, 0 where it takes it
abbrev pub number_of : List ℕ → ℕ
number_of f = outcome.number_of (read_of f)

-- the record number that comes with it
abbrev pub record_of : List ℕ → ℕ
record_of f = outcome.record_of (read_of f)

-- the reader takes the file
abbrev pub Taken : List ℕ → Type 0
Taken f = number_of f ≡ 0

-- the transducer of the file
abbrev pub table_of : List ℕ → Transducer
table_of f = table_of_reading (read_of f)

-- what functionality test or translator answer of its transducer: a refusal of theirs has no record
abbrev pub on_file : {A : Type 0} → Result A Refusal → Result A FileRefusal
on_file (Ok a) = Ok a
on_file (Err refusal) = Err (before_records refusal)

-- ---- what is answered

-- what becomes of a file that is judged: a verdict, or a refusal
abbrev pub Judgement : Type 0
Judgement = Result Verdict FileRefusal

-- what becomes of a file and an input word: how many codes are written, or a refusal
abbrev pub FileTranslation : Type 0
FileTranslation = Result ℕ FileRefusal

-- whether the transducer is split; not so with a refusal
abbrev pub split_of : Judgement → Bool
split_of (Ok verdict) = is_some verdict.witness
split_of (Err refusal) = false

-- u; 0 with a refusal
abbrev pub useful_of : Judgement → ℕ
useful_of (Ok verdict) = verdict.useful
useful_of (Err refusal) = 0

-- the counts of the witness, and how many codes its outputs have in common, all 0 unless it is split
abbrev pub counts_of : Judgement → Counts
counts_of (Ok verdict) = counts_in verdict.witness
counts_of (Err refusal) = no_counts

-- how many codes a translation writes; 0 with a refusal
abbrev pub length_of : FileTranslation → ℕ
length_of (Ok n) = n
length_of (Err refusal) = 0

-- ---- the verdict on a file

-- a refused file: the reader's number and record, and nothing else
abbrev pub refused_judgement : List ℕ → Judgement
refused_judgement f = read_of f ▸ Ok (record { useful = 0; witness = None })

-- r is what the functionality test says of t, and the buffers that held b hold b'
pub record VerdictOn (t : Transducer) (b b' : Buffers) (r : Judgement) : Type 0 where
  pub verdict : Result Verdict Refusal
  pub decided : Decided t b b' verdict
  pub answer : r ≡ on_file verdict

-- from the bytes f of a file and buffers that hold b the judgement is r, and the buffers are left with b'
pub record Judged (f : List ℕ) (b b' : Buffers) (r : Judgement) : Type 0 where
  pub refused : number_of f ≢ 0 → (r ≡ refused_judgement f) × (b' ≡ b)
  pub taken : Taken f → VerdictOn (table_of f) b b' r

-- two judgements agree in all that document 01 settles; b' and b'' are what they leave in the buffers. Any two that meet the contract from the same
-- file and buffers do: `judged_determined` of proofs/EngineLaws.antt
pub record Agree (b' b'' : Buffers) (r r' : Judgement) : Type 0 where
  pub number : outcome.number_of r ≡ outcome.number_of r'
  pub at_record : outcome.record_of r ≡ outcome.record_of r'
  pub split : split_of r ≡ split_of r'
  pub useful : useful_of r ≡ useful_of r'
  -- the same outputs have the same number of codes in common
  pub shared : x_in b' (counts_of r) ≡ x_in b'' (counts_of r') → y_in b' (counts_of r) ≡ y_in b'' (counts_of r')
      → (counts_of r).shared ≡ (counts_of r').shared
  -- which witness a split verdict shows is free; any other judgement is the same whole, and leaves the same
  pub unless_split : split_of r ≡ false → (r ≡ r') × (b' ≡ b'')

-- ---- a translation by a file

-- a refused file: the reader's number and record, and nothing is written
abbrev pub refused_translation : List ℕ → FileTranslation
refused_translation f = read_of f ▸ Ok 0

-- q is what the translator answers with t, and the buffer that held out₀ holds out
pub record AnswerBy (t : Transducer) (input out₀ out : List ℕ) (q : FileTranslation) : Type 0 where
  pub translation : Result ℕ Refusal
  pub translated : Translated t input out₀ out translation
  pub answer : q ≡ on_file translation

-- from the bytes f of a file, the bytes of an input word and a buffer that holds out₀ the answer is q, and the buffer is left with out
pub record FileTranslated (f input out₀ out : List ℕ) (q : FileTranslation) : Type 0 where
  pub refused : number_of f ≢ 0 → (q ≡ refused_translation f) × (out ≡ out₀)
  pub taken : Taken f → AnswerBy (table_of f) input out₀ out q
