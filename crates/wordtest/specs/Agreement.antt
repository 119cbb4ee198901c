-- The word test and the translator (document 02, job 1): on a functional transducer (document 01: a single table) yes is what the translator gives.
use Rattle.std.specs.Prelude.{◌≡◌, true, List, ◌↔◌, ℕ, ◌≤◌, length, take, Result, Bool}
use Rattle.transducer.specs.Refusals.{number_of}
use Rattle.transducer.specs.Paths.{Functional}
use Rattle.transducer.specs.declared.Transducer.{Transducer}
use Rattle.transducer.specs.declared.refusals.Refusal.{Refusal}
use Rattle.wordsearch.specs.Limits.{most_written}
use Rattle.translator.specs.Numbers.{length_of}
use Rattle.translator.specs.Translated.{Translated}
use Rattle.wordtest.specs.Numbers.{says_yes}
use Rattle.wordtest.specs.Words.{refusal_of}
use Rattle.wordtest.specs.Tested.{Tested}

-- the translator's answer r, which leaves `out`, is the word `output`
pub record Gives (output out : List ℕ) (r : Result ℕ Refusal) : Type 0 where
  pub success : number_of r ≡ 0
  pub size : length_of r ≡ length output
  pub codes : take (length output) out ≡ output

-- on a functional transducer, for words that are not refused: any answer that the word test may give is yes exactly when any answer that the
-- translator may give, lent 65,528 places or more, is this output
abbrev pub Agreement : Transducer → List ℕ → List ℕ → Type 0
Agreement t input output =
    Functional t → refusal_of t input output ≡ 0
    → (out₀ out : List ℕ) (a : Result Bool Refusal) (r : Result ℕ Refusal) → most_written ≤ length out₀
    → Tested t input output a → Translated t input out₀ out r → (says_yes a ≡ true) ↔ Gives output out r
