-- Which refusals the contract gives, exactly. Assumes nothing.
use mathlib.Core.Path.{◌≡◌, sym, ap, ◌∙◌}
use mathlib.Core.Bool.{Bool, true, false, cond}
use mathlib.Core.List.{List}
use mathlib.Core.Logic.{◌≢◌, ◌↔◌}
use Prim.Native.Nat.{ℕ, ◌≤◌, ◌<◌}
use native.Mathlib.Decide.{ℕ_discrete}
use native.Mathlib.Omega.{arith}
use lib.Dec.{leb}
use lib.ListN.{length}
use Rattle.std.specs.Prelude.{Result}
use Rattle.transducer.specs.Refusals as refusal
use Rattle.transducer.specs.Refusals.{number_of}
use Rattle.transducer.specs.declared.refusals.Refusal.{Refusal}
use Rattle.transducer.specs.Transition.{OutputWord, word_of}
use Rattle.transducer.specs.Codes.{all_codes}
use Rattle.transducer.specs.Accepted.{accepted_of}
use Rattle.transducer.specs.Paths.{Relates, Functional}
use Rattle.transducer.specs.declared.Transducer.{Transducer}
use Rattle.wordsearch.specs.Limits.{most_word, most_written}
use Rattle.translator.specs.Words.{refusal_of}
use Rattle.translator.specs.Translated.{Outcome, Translated}

-- ---- 7 is never given with 65,528 places

-- the refusals before the search are not 7
refusal_no_seven : (t : Transducer) (input : List ℕ) → refusal_of t input ≢ refusal.too_short_of
unfolding refusal_of
refusal_no_seven t input = go (accepted_of t) (leb (length input) most_word) (all_codes input)
  where
    go : (a b c : Bool) → ◌≢◌ {A = ℕ} (cond a (cond b (cond c 0 refusal.no_input_code) refusal.word_too_long) refusal.invalid) refusal.too_short_of
    go false b c e = omega arith
    go true false c e = omega arith
    go true true false e = omega arith
    go true true true e = omega arith

module _ {t : Transducer} {input out₀ out : List ℕ} {r : Result ℕ Refusal} where
  pub never_short : most_written ≤ length out₀ → Translated t input out₀ out r → number_of r ≢ refusal.too_short_of
  never_short room h e = go (ℕ_discrete (refusal_of t input) 0)
    where
      outcome : Outcome t input out₀ out r → ⊥
      outcome (Outcome.written a few fits n k o) = omega arith
      outcome (Outcome.unread never n) = omega arith
      outcome (Outcome.short a few long n) = omega arith

      go : Dec (refusal_of t input ≡ 0) → ⊥
      go (yes z) = outcome (h.answered z)
      go (no z) = refusal_no_seven t input (sym (h.refused z) ∙ e)

-- ---- which refusal is given

module _ {t : Transducer} {input out₀ out : List ℕ} {r : Result ℕ Refusal} (h : Translated t input out₀ out r) where
  -- 8, 9 and 10 are given exactly where the definition says so, whatever the transducer is
  pub refused_exactly : (n : ℕ) → refusal.invalid ≤ n → n ≤ refusal.no_input_code → (number_of r ≡ n) ↔ (refusal_of t input ≡ n)
  refused_exactly n low high = (λ e. go e (ℕ_discrete (refusal_of t input) 0), λ e. h.refused (λ z. omega arith) ∙ e)
    where
      outcome : number_of r ≡ n → Outcome t input out₀ out r → ⊥
      outcome e (Outcome.written a few fits k l o) = omega arith
      outcome e (Outcome.unread never k) = omega arith
      outcome e (Outcome.short a few long k) = omega arith

      go : number_of r ≡ n → Dec (refusal_of t input ≡ 0) → refusal_of t input ≡ n
      go e (yes z) = absurd (outcome e (h.answered z))
      go e (no z) = sym (h.refused z) ∙ e

  module _ (none : refusal_of t input ≡ 0) where
    -- 11 is given exactly where no accepting path reads the word
    pub unread_exactly : (number_of r ≡ refusal.unread) ↔ ((y : OutputWord) → Relates t (word_of input) y → ⊥)
    unread_exactly = (λ e. to e (h.answered none), λ never. from never (h.answered none))
      where
        to : number_of r ≡ refusal.unread → Outcome t input out₀ out r → (y : OutputWord) → Relates t (word_of input) y → ⊥
        to e (Outcome.written a few fits k l o) = absurd (omega arith)
        to e (Outcome.unread never k) = never
        to e (Outcome.short a few long k) = absurd (omega arith)

        from : ((y : OutputWord) → Relates t (word_of input) y → ⊥) → Outcome t input out₀ out r → number_of r ≡ refusal.unread
        from never (Outcome.written a few fits k l o) = absurd (never _ a)
        from never (Outcome.unread never' k) = k
        from never (Outcome.short a few long k) = absurd (never _ a)

    -- on a functional transducer 7 is given exactly where the output of the word is longer than the buffer
    pub short_exactly : {y : OutputWord} → Functional t → Relates t (word_of input) y → (number_of r ≡ refusal.too_short_of) ↔ (length out₀ < length y)
    short_exactly {y} f b = (λ e. to e (h.answered none), λ long. from long (h.answered none))
      where
        to : number_of r ≡ refusal.too_short_of → Outcome t input out₀ out r → length out₀ < length y
        to e (Outcome.written a few fits k l o) = absurd (omega arith)
        to e (Outcome.unread never k) = absurd (never y b)
        to e (Outcome.short {y = z} a few long k) = omega (arith, ap length (f (word_of input) z y a b))

        from : length out₀ < length y → Outcome t input out₀ out r → number_of r ≡ refusal.too_short_of
        from long (Outcome.written {y = z} a few fits k l o) = absurd (omega (arith, ap length (f (word_of input) z y a b)))
        from long (Outcome.unread never k) = absurd (never y b)
        from long (Outcome.short a few long' k) = k
