-- The numbers that an exported function returns, and what it puts into the lists that are lent.
use Rattle.std.specs.Prelude.{◌≡◌, Bool, cond, List, [], ◌∷◌, map, ◌≢◌, ℕ, ◌+◌, ◌*◌, ltb, length, Result, Ok, Err}
use Rattle.buffers.specs.Put.{put}
use Rattle.transducer.specs.Refusals.{too_short_of, first_of}
use Rattle.transducer.specs.declared.Transducer.{Transducer}
use Rattle.words.specs.declared.Comparison.{Comparison}
use Rattle.words.specs.declared.Comparison.TheVariants.{Level, FirstAhead, SecondAhead, Clash}
use Rattle.transducer.specs.declared.refusals.Refusal.{Refusal}
use Rattle.functionality.specs.Decided.{verdict_of, useful_of, counts_of}
use Rattle.functionality.specs.declared.Verdict.{Verdict}
use Rattle.engine.specs.Engine.{number_of, record_of}
use Rattle.held.specs.Held.{flag_of, held_of}

-- ---- refusals

-- a refusal at a record as one number: its own number in the low 16 bits, the record's number above; 0 where nothing is refused
unfoldable pub refusal_code : ℕ → ℕ → ℕ
refusal_code number at = number + 65536 * at

-- the refusal of a file, 0 where it is taken
abbrev pub file_code : List ℕ → ℕ
file_code f = refusal_code (number_of f) (record_of f)

-- the refusal of a list that has fewer than n places, 0 where it has them
unfoldable pub room_fault : ℕ → List ℕ → ℕ
room_fault n list = cond (ltb (length list) n) too_short_of 0

-- ---- how many numbers an answer list takes

-- of a verdict: split, u, five counts, and how many codes the two outputs have in common
abbrev pub verdict_answer : ℕ
verdict_answer = 8

-- of a translation: a length
abbrev pub translate_answer : ℕ
translate_answer = 1

-- of a word test: yes or no
abbrev pub accepts_answer : ℕ
accepts_answer = 1

-- of the useful pairs: u
abbrev pub pairs_answer : ℕ
pairs_answer = 1

-- of a difference: its kind, and the number that a clash carries
abbrev pub difference_answer : ℕ
difference_answer = 2

-- of a writing: a byte count
abbrev pub write_answer : ℕ
write_answer = 1

-- ---- what is put into lists

-- how two words compare
abbrev pub kind_of : Comparison → ℕ
kind_of Level = 0
kind_of FirstAhead = 1
kind_of SecondAhead = 2
kind_of (Clash n) = 3

-- a verdict: split, u, how many items stand in each buffer, and how many codes the two outputs have in common at the beginning
unfoldable pub numbers_of : Result Verdict Refusal → List ℕ
numbers_of r =
    verdict_of r ∷ useful_of r ∷ (counts_of r).word ∷ (counts_of r).path_a ∷ (counts_of r).path_b ∷ (counts_of r).output_x ∷ (counts_of r).output_y
    ∷ (counts_of r).shared ∷ []

-- what is listed; nothing with a refusal
abbrev pub listed_of : {A : Type 0} → Result (List A) Refusal → List A
listed_of (Ok items) = items
listed_of (Err refusal) = []

-- ---- how a call ends: it returns its refusal and leaves the list, or returns 0

-- with numbers at the front of the answer list, which held a and holds a'
pub record Given (refusal : ℕ) (numbers a a' : List ℕ) (r : ℕ) : Type 0 where
  pub code : r ≡ refusal
  pub refused : r ≢ 0 → a' ≡ a
  pub answered : r ≡ 0 → a' ≡ put a 0 numbers

-- with a flag for each member at the front of the list, unless it has fewer places
pub record Flagged (refusal : ℕ) (members : List Bool) (flags flags' : List ℕ) (r : ℕ) : Type 0 where
  pub code : r ≡ first_of (refusal ∷ room_fault (length members) flags ∷ [])
  pub refused : r ≢ 0 → flags' ≡ flags
  pub shown : r ≡ 0 → flags' ≡ put flags 0 (map flag_of members)

-- with the transducer t held at the front of the memory, which held h and holds h'
pub record HeldIn (refusal : ℕ) (t : Transducer) (h h' : List ℕ) (r : ℕ) : Type 0 where
  pub code : r ≡ refusal
  pub refused : r ≢ 0 → h' ≡ h
  pub held : r ≡ 0 → h' ≡ put h 0 (held_of t)
