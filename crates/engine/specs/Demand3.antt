-- Demand 3 (document 00), whole, as one statement about reader, verdict and translator together: `Demand3 s` says the demand's sentences, in their
-- order, of a file s or of a table's value s. It holds of every file that the reader takes, and of every value that is accepted, whatever made it:
-- `demand_3` of proofs/Demand3.antt. The demand's words are here: a table is a transducer, a cue is an input word, 'split' and 'single' are the two
-- values of `split_of`, lent memory is a buffer.
use Rattle.std.specs.Prelude.{◌≡◌, true, false, List, ◌↔◌, ℕ, ◌*◌, ◌-◌, ◌≤◌, length, take, Ok}
use Rattle.buffers.specs.Put.{put}
use Rattle.transducer.specs.Accepted.{accepted_of}
use Rattle.transducer.specs.Transition.{InputWord, OutputWord, word_of, bytes_of}
use Rattle.transducer.specs.Paths.{reads, Accepting, output_of, Witness}
use Rattle.transducer.specs.Alike.{Alike}
use Rattle.transducer.specs.declared.Transducer.{Transducer}
use Rattle.wordsearch.specs.Limits.{most_word, most_written}
use Rattle.witness.specs.Showing.{Buffers, Showing}
use Rattle.functionality.specs.Decided.{full_of, UsefulCount}
use Rattle.tablereader.specs.Outcome.{number_of}
use Rattle.engine.specs.Engine.{Taken, table_of, Judgement, FileTranslation, split_of, useful_of, counts_of, length_of, VerdictOn, Judged, AnswerBy, FileTranslated}

-- ---- what verdict and translator serve

-- a table file, by its bytes; or a table's value, as an edit leaves one (document 02, job 6: "Verdict and translator serve an edited table as they serve a
-- read one")
pub data Served : Type 0 where
  file : List ℕ → Served
  value : Transducer → Served

-- its transducer
abbrev pub table_in_of : Served → Transducer
table_in_of (file f) = table_of f
table_in_of (value t) = t

-- it is no cause of a refusal: the reader takes the file, the value is accepted
abbrev pub Admitted : Served → Type 0
Admitted (file f) = Taken f
Admitted (value t) = accepted_of t ≡ true

-- the verdict on it is r, and the buffers that held b hold b'
abbrev pub VerdictFor : Served → Buffers → Buffers → Judgement → Type 0
VerdictFor (file f) b b' r = Judged f b b' r
VerdictFor (value t) b b' r = VerdictOn t b b' r

-- the translator's answer to a word by it is q, and the buffer that held out₀ holds out
abbrev pub AnswerFor : Served → List ℕ → List ℕ → List ℕ → FileTranslation → Type 0
AnswerFor (file f) input out₀ out q = FileTranslated f input out₀ out q
AnswerFor (value t) input out₀ out q = AnswerBy t input out₀ out q

-- r is a judgement of s from buffers b that are lent in full, and b' is what it leaves there
pub record JudgedInFull (s : Served) (b b' : Buffers) (r : Judgement) : Type 0 where
  pub full : full_of b ≡ true
  pub judged : VerdictFor s b b' r

-- q is the translator's answer to a word by s from a buffer out₀ of most_written places or more, and out is what it leaves there
pub record TranslatedInFull (s : Served) (input out₀ out : List ℕ) (q : FileTranslation) : Type 0 where
  pub room : most_written ≤ length out₀
  pub translated : AnswerFor s input out₀ out q

-- ---- the parts of the sentences

-- some input word, however long, has two accepting paths with different outputs
pub record TwoReadings (t : Transducer) : Type 0 where
  pub word : InputWord
  pub output_x : OutputWord
  pub output_y : OutputWord
  pub witness : Witness t word output_x output_y

-- the verdict is no refusal; it is 'split' exactly where some word has two readings, and 'single' exactly where none has
pub record Exact (t : Transducer) (r : Judgement) : Type 0 where
  pub number : number_of r ≡ 0
  pub split : (split_of r ≡ true) ↔ TwoReadings t
  pub single : (split_of r ≡ false) ↔ ¬ (TwoReadings t)

-- the answer is the output that all accepting paths write that read the word: it stands at the front of the buffer, whose places beyond hold what
-- they held, and its length is returned
pub record TheOutput (t : Transducer) (input out₀ out : List ℕ) (q : FileTranslation) : Type 0 where
  pub output : OutputWord
  pub all_write : (π : List ℕ) (a : Accepting t π) → reads t π ≡ word_of input → output_of t a ≡ output
  pub answer : q ≡ Ok (length output)
  pub written : out ≡ put out₀ 0 (bytes_of output)

-- two answers are the same refusal or the same output (document 01: two refusals are the same if their numbers are, two outputs if their lengths and
-- codes are)
pub record SameAnswer (out out' : List ℕ) (q q' : FileTranslation) : Type 0 where
  pub number : number_of q ≡ number_of q'
  pub size : length_of q ≡ length_of q'
  pub codes : take (length_of q) out ≡ take (length_of q') out'

-- ---- the demand

-- its sentences, each above what it says of s
pub record Demand3 (s : Served) : Type 0 where
  -- "For every table file that the reader takes, with the verdict's five buffers lent in full, the verdict is 'split' exactly when some cue, however
  -- long, has two accepting paths with different outputs, and otherwise it is 'single'."
  pub verdict : {b b' : Buffers} {r : Judgement} → JudgedInFull s b b' r → Exact (table_in_of s) r
  -- "Either carries u, the number of useful pairs of states as document 01 defines them."
  pub useful : {b b' : Buffers} {r : Judgement} → JudgedInFull s b b' r → UsefulCount (table_in_of s) (useful_of r)
  -- "A split verdict shows such a cue, both paths and both outputs; the cue and each path have at most 2u - 1 items."
  pub shows : {b b' : Buffers} {r : Judgement} → JudgedInFull s b b' r → split_of r ≡ true → Showing (table_in_of s) (2 * useful_of r - 1) b b' (counts_of r)
  -- "Where it is 'single', the translator, lent 65,528 places, gives for every cue of up to 255 symbols that has an accepting path the output that
  -- all its accepting paths write."
  pub translates : {b b' : Buffers} {r : Judgement} → JudgedInFull s b b' r → split_of r ≡ false
      → {input out₀ out : List ℕ} {q : FileTranslation} → TranslatedInFull s input out₀ out q
      → length input ≤ most_word → (π : List ℕ) → Accepting (table_in_of s) π → reads (table_in_of s) π ≡ word_of input
      → TheOutput (table_in_of s) input out₀ out q
  -- "Any two such files whose tables are alike, whatever the order of their lines, are both 'split' or both 'single', with the same u." (Since document
  -- 02, job 2, a line may stand in them any number of times, so that they may have different numbers of lines.)
  pub alike : {b b' : Buffers} {r : Judgement} → JudgedInFull s b b' r
      → {s' : Served} → Admitted s' → Alike (table_in_of s) (table_in_of s') → {d d' : Buffers} {k : Judgement} → JudgedInFull s' d d' k
      → (split_of r ≡ split_of k) × (useful_of r ≡ useful_of k)
  -- "If 'single', the translator, lent 65,528 places, gives for every cue, refused ones included, the same refusal or the same output on both
  -- tables."
  pub alike_translates : {b b' : Buffers} {r : Judgement} → JudgedInFull s b b' r → split_of r ≡ false
      → {s' : Served} → Admitted s' → Alike (table_in_of s) (table_in_of s')
      → {input out₀ out out₀' out' : List ℕ} {q q' : FileTranslation} → TranslatedInFull s input out₀ out q → TranslatedInFull s' input out₀' out' q'
      → SameAnswer out out' q q'
