-- The translator's contract: what it answers and what it leaves in the buffer (document 01, "The translator").
use Rattle.std.specs.Prelude.{◌≡◌, List, ◌≢◌, ℕ, ◌≤◌, ◌<◌, length, Result}
use Rattle.buffers.specs.Put.{put}
use Rattle.transducer.specs.Refusals as refusal
use Rattle.transducer.specs.Refusals.{number_of}
use Rattle.transducer.specs.Transition.{OutputWord, word_of, bytes_of}
use Rattle.transducer.specs.Paths.{Relates}
use Rattle.transducer.specs.declared.Transducer.{Transducer}
use Rattle.transducer.specs.declared.refusals.Refusal.{Refusal}
use Rattle.wordsearch.specs.Limits.{most_written}
use Rattle.translator.specs.Numbers.{length_of}
use Rattle.translator.specs.Words.{refusal_of}

module _ (t : Transducer) (input out₀ out : List ℕ) (r : Result ℕ Refusal) where
  -- the answer for a word that is not refused
  pub data Outcome : Type 0 where
    -- the output y of an accepting path that reads the word stands at the front of the buffer; the places beyond hold what they held
    written : {y : OutputWord} → Relates t (word_of input) y → length y ≤ most_written → length y ≤ length out₀
        → number_of r ≡ 0 → length_of r ≡ length y → out ≡ put out₀ 0 (bytes_of y) → Outcome
    -- no accepting path reads the word
    unread : ((y : OutputWord) → Relates t (word_of input) y → ⊥) → number_of r ≡ refusal.unread → Outcome
    -- the output y of an accepting path that reads the word is longer than the buffer; with 65,528 places none is
    short : {y : OutputWord} → Relates t (word_of input) y → length y ≤ most_written → length out₀ < length y → number_of r ≡ refusal.too_short_of → Outcome

  -- from the transducer t, the input word's bytes and a buffer that holds out₀ the answer is r, and the buffer is left with out
  pub record Translated : Type 0 where
    -- what is refused before any search is given where the definition says so
    pub refused : refusal_of t input ≢ 0 → number_of r ≡ refusal_of t input
    -- any other word is answered
    pub answered : refusal_of t input ≡ 0 → Outcome
    -- a refusal changes no place of the buffer
    pub unchanged : number_of r ≢ 0 → out ≡ out₀

-- two answers are the same, and both buffers begin with the same bytes; the places beyond hold what they held
pub record Same (out₀ out out₀' out' : List ℕ) (r r' : Result ℕ Refusal) : Type 0 where
  pub answer : r ≡ r'
  pub bytes : List ℕ
  pub size : length_of r ≡ length bytes
  pub one : out ≡ put out₀ 0 bytes
  pub other : out' ≡ put out₀' 0 bytes
