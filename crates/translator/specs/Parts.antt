-- What the parts of the translator answer.
use Rattle.std.specs.Prelude.{◌≡◌, List, ◌≢◌, ℕ, Result}
use Rattle.transducer.specs.Refusals.{number_of}
use Rattle.transducer.specs.declared.Transducer.{Transducer}
use Rattle.transducer.specs.declared.refusals.Refusal.{Refusal}
use Rattle.translator.specs.Translated.{Outcome}

-- the answer for a word that is not refused, and that a refusal changes no place of the buffer
pub record Answers (t : Transducer) (input out₀ out : List ℕ) (r : Result ℕ Refusal) : Type 0 where
  pub outcome : Outcome t input out₀ out r
  pub unchanged : number_of r ≢ 0 → out ≡ out₀
