-- Transducers that are alike are answered alike. Assumes nothing.
use mathlib.Core.Path.{◌≡◌, sym, ◌∙◌}
use mathlib.Core.Bool.{true}
use mathlib.Core.List.{List}
use mathlib.Core.Logic.{◌≢◌}
use Prim.Native.Nat.{ℕ, ◌≤◌}
use native.Mathlib.Decide.{ℕ_discrete}
use native.Mathlib.Omega.{arith}
use lib.ListN.{length}
use Rattle.std.specs.Prelude.{Result}
use Rattle.transducer.specs.Refusals as refusal
use Rattle.transducer.specs.Refusals.{number_of}
use Rattle.transducer.specs.declared.refusals.Refusal.{Refusal}
use Rattle.transducer.specs.Accepted.{accepted_of}
use Rattle.transducer.specs.Paths.{Functional}
use Rattle.transducer.specs.Alike.{Alike}
use Rattle.transducer.specs.declared.Transducer.{Transducer}
use Rattle.transducer.proofs.AlikeLaws.{alike_equivalent}
use Rattle.wordsearch.specs.Limits.{most_written}
use Rattle.translator.specs.Words.{refusal_of}
use Rattle.translator.specs.Translated.{Outcome, Translated, Same}
use Rattle.translator.proofs.TranslationLaws.{translated_same, translated_determined}

module _ {t t' : Transducer} (alike : Alike t t') (valid : accepted_of t ≡ true) (valid' : accepted_of t' ≡ true) where
  same_refusals : (input : List ℕ) → refusal_of t input ≡ refusal_of t' input
  unfolding refusal_of
  same_refusals input = rw (valid, valid')

  -- what meets the contract for one meets it for the other
  pub alike_translated : {input out₀ out : List ℕ} {r : Result ℕ Refusal} → Translated t' input out₀ out r → Translated t input out₀ out r
  alike_translated {input} {out₀} {out} {r} h =
      record {
        refused = rw (same_refusals input) h.refused;
        answered = rw (same_refusals input) (λ z. outcome (h.answered z));
        unchanged = h.unchanged;
      }
    where
      outcome : Outcome t' input out₀ out r → Outcome t input out₀ out r
      outcome (Outcome.written {y = y} a few fits n k o) = Outcome.written ((alike_equivalent alike _ y).1 a) few fits n k o
      outcome (Outcome.unread never n) = Outcome.unread (λ y a. never y ((alike_equivalent alike _ y).0 a)) n
      outcome (Outcome.short {y = y} a few long n) = Outcome.short ((alike_equivalent alike _ y).1 a) few long n

  module _ {input out₀ out out₀' out' : List ℕ} {r r' : Result ℕ Refusal}
      (h : Translated t input out₀ out r) (h' : Translated t' input out₀' out' r')
    where
      -- 8, 9, 10 and 11 agree, functional or not
      pub alike_refuses : number_of r ≢ 0 → number_of r ≢ refusal.too_short_of → number_of r ≡ number_of r'
      alike_refuses n s = go (ℕ_discrete (refusal_of t input) 0)
        where
          outcomes : Outcome t input out₀ out r → Outcome t input out₀' out' r' → number_of r ≡ number_of r'
          outcomes (Outcome.written a few fits e l o) q = absurd (n e)
          outcomes (Outcome.short a few long e) q = absurd (s e)
          outcomes (Outcome.unread never e) (Outcome.unread never' e') = e ∙ sym e'
          outcomes (Outcome.unread never e) (Outcome.written a few fits e' l o) = absurd (never _ a)
          outcomes (Outcome.unread never e) (Outcome.short a few long e') = absurd (never _ a)

          go : Dec (refusal_of t input ≡ 0) → number_of r ≡ number_of r'
          go (yes z) = outcomes (h.answered z) ((alike_translated h').answered z)
          go (no z) = h.refused z ∙ sym ((alike_translated h').refused z)

      -- a functional transducer and one that is alike give the same answer, and the same output whatever their buffers of 65,528 places hold
      pub alike_translates : Functional t → most_written ≤ length out₀ → most_written ≤ length out₀' → Same out₀ out out₀' out' r r'
      alike_translates f room room' = translated_same f (λ n few k. omega arith) (λ n few k. omega arith) h (alike_translated h')

  -- from one buffer, of whatever size, the whole buffer is the same too
  pub alike_determined : {input out₀ out out' : List ℕ} {r r' : Result ℕ Refusal} → Functional t
      → Translated t input out₀ out r → Translated t' input out₀ out' r' → (r ≡ r') × (out ≡ out')
  alike_determined f h h' = translated_determined f h (alike_translated h')
