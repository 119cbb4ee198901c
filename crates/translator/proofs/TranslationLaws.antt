-- What the translator's contract determines: on a functional transducer the answer and the buffer, and with 65,528 places that the output is the one
-- output of the word. Assumes nothing.
use mathlib.Core.Path.{◌≡◌, refl, sym, ap, ◌∙◌}
use mathlib.Core.Bool.{true}
use mathlib.Core.List.{List, []}
use mathlib.Core.Logic.{◌≢◌}
use Prim.Native.Nat.{ℕ, ◌≤◌}
use native.Mathlib.Decide.{ℕ_discrete}
use native.Mathlib.Omega.{arith}
use lib.ListN.{length}
use Rattle.buffers.specs.Put.{put}
use Rattle.buffers.proofs.PutLaws.{put_none}
use Rattle.std.specs.Prelude.{Result, Ok, Err}
use Rattle.transducer.specs.Refusals.{number_of}
use Rattle.transducer.specs.declared.refusals.Refusal.{Refusal}
use Rattle.transducer.specs.Transition.{OutputWord, word_of, bytes_of}
use Rattle.transducer.specs.Accepted.{accepted_of}
use Rattle.transducer.specs.Paths.{Relates, Functional}
use Rattle.transducer.specs.declared.Transducer.{Transducer}
use Rattle.transducer.proofs.CodeLaws.{InRange, codes_exactly}
use Rattle.transducer.proofs.SizeLaws.{length_bytes}
use Rattle.wordsearch.specs.Limits.{most_word, most_written}
use Rattle.translator.specs.Numbers.{length_of}
use Rattle.translator.specs.Words.{refusal_of}
use Rattle.translator.specs.Translated.{Outcome, Translated, Same}
use Rattle.transducer.proofs.RefusalLaws.{same_answer}
use Rattle.translator.proofs.RefusalLaws.{refusal_none}

-- ---- an answer is its number and its length

same_length : (r r' : Result ℕ Refusal) → number_of r ≡ number_of r' → length_of r ≡ length_of r' → r ≡ r'
same_length r r' e k = same_answer r r' e (λ n n' o o'. rw (o, o') at k)

-- with a refusal the length is 0
pub refused_length : (r : Result ℕ Refusal) → number_of r ≢ 0 → length_of r ≡ 0
refused_length (Ok n) h = absurd (h refl)
refused_length (Err refusal) h = refl

-- ---- on a functional transducer the contract determines the answer

-- a buffer holds each output that the other holds
abbrev pub Holds : List ℕ → List ℕ → Type 0
Holds out₀ out₀' = (n : ℕ) → n ≤ most_written → n ≤ length out₀ → n ≤ length out₀'

module _ {t : Transducer} {input out₀ out out₀' out' : List ℕ} {r r' : Result ℕ Refusal} where
  -- two refusals with the same number
  same_refusal : number_of r ≢ 0 → number_of r ≡ number_of r' → Translated t input out₀ out r → Translated t input out₀' out' r'
      → Same out₀ out out₀' out' r r'
  same_refusal n e h h' =
      let n' : number_of r' ≢ 0 = λ z. n (e ∙ z) in
      record {
        answer = same_length r r' e (refused_length r n ∙ sym (refused_length r' n'));
        bytes = [];
        size = refused_length r n;
        one = h.unchanged n ∙ sym (put_none out₀ 0);
        other = h'.unchanged n' ∙ sym (put_none out₀' 0);
      }

  -- from two buffers that hold the same outputs a functional transducer gives the same answer
  pub translated_same : Functional t → Holds out₀ out₀' → Holds out₀' out₀
      → Translated t input out₀ out r → Translated t input out₀' out' r'
      → Same out₀ out out₀' out' r r'
  translated_same f to from h h' = go (ℕ_discrete (refusal_of t input) 0)
    where
      outcomes : Outcome t input out₀ out r → Outcome t input out₀' out' r' → Same out₀ out out₀' out' r r'
      outcomes (Outcome.written {y = y} a few fits n k o) (Outcome.written {y = y'} a' few' fits' n' k' o') =
          let e = f (word_of input) y' y a' a in
          record {
            answer = same_length r r' (n ∙ sym n') (k ∙ sym (k' ∙ ap length e));
            bytes = bytes_of y;
            size = k ∙ sym (length_bytes y);
            one = o;
            other = rw e at o';
          }
      outcomes (Outcome.written {y = y} a few fits n k o) (Outcome.short {y = y'} a' few' long n') =
          absurd (omega (arith, to (length y) few fits, ap length (f (word_of input) y y' a a')))
      outcomes (Outcome.short {y = y} a few long n) (Outcome.written {y = y'} a' few' fits n' k o) =
          absurd (omega (arith, from (length y') few' fits, ap length (f (word_of input) y y' a a')))
      outcomes (Outcome.short a few long n) (Outcome.short a' few' long' n') = same_refusal (λ z. omega arith) (n ∙ sym n') h h'
      outcomes (Outcome.unread never n) (Outcome.unread never' n') = same_refusal (λ z. omega arith) (n ∙ sym n') h h'
      outcomes (Outcome.unread never n) (Outcome.written a few fits n' k o) = absurd (never _ a)
      outcomes (Outcome.unread never n) (Outcome.short a few long n') = absurd (never _ a)
      outcomes (Outcome.written a few fits n k o) (Outcome.unread never n') = absurd (never _ a)
      outcomes (Outcome.short a few long n) (Outcome.unread never n') = absurd (never _ a)

      go : Dec (refusal_of t input ≡ 0) → Same out₀ out out₀' out' r r'
      go (yes z) = outcomes (h.answered z) (h'.answered z)
      go (no z) = same_refusal (λ e. z (sym (h.refused z) ∙ e)) (h.refused z ∙ sym (h'.refused z)) h h'

-- where 8, 9 or 10 is given, the contract determines the answer and the buffer, whatever the transducer is
pub refused_determined : {t : Transducer} {input out₀ out out' : List ℕ} {r r' : Result ℕ Refusal} → refusal_of t input ≢ 0
    → Translated t input out₀ out r → Translated t input out₀ out' r' → (r ≡ r') × (out ≡ out')
refused_determined z h h' =
    let s = same_refusal (λ e. z (sym (h.refused z) ∙ e)) (h.refused z ∙ sym (h'.refused z)) h h' in
    (s.answer, s.one ∙ sym s.other)

-- from one buffer the contract determines the answer and the buffer
pub translated_determined : {t : Transducer} {input out₀ out out' : List ℕ} {r r' : Result ℕ Refusal} → Functional t
    → Translated t input out₀ out r → Translated t input out₀ out' r' → (r ≡ r') × (out ≡ out')
translated_determined f h h' =
    let s = translated_same f (λ n few k. k) (λ n few k. k) h h' in
    (s.answer, s.one ∙ sym s.other)

-- ---- on a functional transducer the output is the one output of the word

pub gives_the_output : {t : Transducer} {input out₀ out : List ℕ} {r : Result ℕ Refusal} {y : OutputWord} → Functional t → accepted_of t ≡ true
    → length input ≤ most_word → InRange input → most_written ≤ length out₀ → Relates t (word_of input) y → Translated t input out₀ out r
    → (r ≡ Ok (length y)) × (out ≡ put out₀ 0 (bytes_of y))
gives_the_output {t} {input} {out₀} {out} {r} {y} f valid short codes room a h =
    outcome (h.answered (refusal_none t input valid short ((codes_exactly input).1 codes)))
  where
    outcome : Outcome t input out₀ out r → (r ≡ Ok (length y)) × (out ≡ put out₀ 0 (bytes_of y))
    outcome (Outcome.written {y = z} b few fits n k o) =
        let e = f (word_of input) z y b a in
        (same_length r (Ok (length y)) n (k ∙ ap length e), rw e at o)
    outcome (Outcome.unread never n) = absurd (never y a)
    outcome (Outcome.short b few long n) = absurd (omega arith)
