-- What the verdict's first number and its last mean, how the word test agrees with the translation, and that alike tables are answered alike, which follows
-- from demand 3. Assumes nothing.
use mathlib.Core.Path.{◌≡◌, refl, sym, ap, ◌∙◌}
use mathlib.Core.Bool.{Bool, true, false, cond}
use mathlib.Core.List.{List, [], ◌∷◌}
use mathlib.Core.Logic.{◌≢◌, ◌↔◌, ◌⊎◌}
use Prim.Native.Nat.{ℕ, ◌≤◌, ◌<◌}
use native.Mathlib.Omega.{arith}
use lib.ListN.{length, get_or, take}
use Rattle.buffers.specs.Put.{put}
use Rattle.words.specs.Difference.{shared_of}
use Rattle.transducer.specs.Refusals.{invalid, too_short_of, list_too_short}
use Rattle.transducer.specs.Paths.{Functional}
use Rattle.transducer.specs.Accepted.{accepted_of}
use Rattle.transducer.specs.Alike.{Alike}
use Rattle.transducer.specs.declared.Transducer.{Transducer}
use Rattle.held.specs.Held.{flag_of, table_in_of}
use Rattle.wordsearch.specs.Limits.{most_written}
use Rattle.translator.specs.Numbers as answer
use Rattle.wordtest.specs.Agreement.{Gives}
use Rattle.wordtest.specs.Numbers as test
use Rattle.wordtest.proofs.AnswerLaws as words
use Rattle.witness.specs.Showing.{Buffers}
use Rattle.std.specs.Prelude.{is_some, Option, Some, None, Result, Ok, Err}
use Rattle.transducer.specs.declared.refusals.Refusal.{Refusal}
use Rattle.witness.specs.declared.Counts.{Counts}
use Rattle.functionality.specs.Decided as decision
use Rattle.functionality.specs.Decided.{split_by, verdict_of, useful_of, counts_of, full_of}
use Rattle.functionality.specs.declared.Verdict.{Verdict}
use Rattle.functionality.proofs.DecidedLaws.{decided_shared, decided_below}
use Rattle.engine.specs.Engine.{on_file, split_of}
use Rattle.engine.proofs.EngineLaws.{number_on, useful_on, length_on}
use Rattle.engine.specs.Demand3.{value, JudgedInFull, TranslatedInFull}
use Rattle.engine.proofs.Demand3.{demand_3, served_same}
use Rattle.answers.specs.Answers.{verdict_answer, translate_answer, accepts_answer, numbers_of}
use Rattle.unit.specs.Calls.{Decides, VerdictGiven, Translates, TranslationGiven, Tests, AcceptsGiven, JoinGiven}
use Rattle.unit.specs.Laws.{OutputsAgree, OutputGiven, SameTranslation}
use Rattle.unit.proofs.CallLaws.{lent, done, answered, front}
use Rattle.unit.proofs.Determined.{front_two, front_one}
use Rattle.unit.proofs.HeldCalls.{series_of}

-- ---- the verdict

-- where nothing is refused, the transducer is accepted and the buffers are lent in full
none_refused : (t : Transducer) (b : Buffers) → decision.refusal_of t b ≡ 0 → (accepted_of t ≡ true) × (full_of b ≡ true)
unfolding decision.refusal_of
none_refused t b z = go (accepted_of t) (full_of b) z
  where
    go : (x y : Bool) → cond x (cond y 0 too_short_of) invalid ≡ 0 → (x ≡ true) × (y ≡ true)
    go true true e = (refl, refl)
    go true false e = absurd (omega arith)
    go false y e = absurd (omega arith)

-- the verdict's number by whether it is split
by_split : (v : Result Verdict Refusal) → verdict_of v ≡ flag_of (split_of (on_file v))
by_split (Ok v) = go v.witness
  where
    go : (w : Option Counts) → split_by w ≡ flag_of (is_some w)
    go None = refl
    go (Some counts) = refl
by_split (Err refusal) = refl

-- the numbers of an answer
numbers_there : (a : List ℕ) (v : Result Verdict Refusal) (P : ℕ → ℕ → ℕ → ℕ → Type 0)
    → P (verdict_of v) (counts_of v).output_x (counts_of v).output_y (counts_of v).shared
    → let a' = put a 0 (numbers_of v) in P (get_or a' 0 0) (get_or a' 5 0) (get_or a' 6 0) (get_or a' 7 0)
unfolding put numbers_of
numbers_there a v P p = p

module _ {h a a' : List ℕ} {b b' : Buffers} {r : ℕ} (g : VerdictGiven h b b' a a' r) (z : r ≡ 0) where
  decides : Decides (table_in_of h) b b' a a' r
  decides = done g.call (lent verdict_answer a h) z

  none : decision.refusal_of (table_in_of h) b ≡ 0
  none = sym (decides.given.code ∙ decides.decided.number) ∙ z

  verdict_accepted : accepted_of (table_in_of h) ≡ true
  verdict_accepted = (none_refused (table_in_of h) b none).0

  in_full : JudgedInFull (value (table_in_of h)) b b' (on_file decides.verdict)
  in_full =
      record {
        full = (none_refused (table_in_of h) b none).1;
        judged = record { verdict = decides.verdict; decided = decides.decided; answer = refl };
      }

  -- the first number of the answer is 0 exactly where the table is functional
  pub verdict_means : (get_or a' 0 0 ≡ 0) ↔ Functional (table_in_of h)
  verdict_means =
      let first = ap (λ l. get_or l 0 0) (decides.given.answered z) ∙ front_one a decides.verdict in
      let single = decides.decided.single none in
      (λ e. single.0 (sym first ∙ e), λ f. first ∙ single.1 f)

  -- the last is how many codes the outputs have in common
  pub outputs_agree : OutputsAgree b' a'
  outputs_agree =
      let v = decides.verdict in
      let d = decides.decided in
      rw (decides.given.answered z)
      record {
        shared =
            numbers_there a v (λ s x y k. k ≡ shared_of (take x b'.output_x) (take y b'.output_y)) (decided_shared d);
        below = numbers_there a v (λ s x y k. s ≢ 0 → (k < x) ⊎ (k < y)) (decided_below d);
      }

  -- the first two
  first_two : take 2 a' ≡ verdict_of decides.verdict ∷ useful_of decides.verdict ∷ []
  first_two = ap (take 2) (decides.given.answered z) ∙ front_two a decides.verdict

pub alike_verdict : {h g a a' c c' : List ℕ} {b b' d d' : Buffers} {r s : ℕ} → Alike (table_in_of h) (table_in_of g)
    → VerdictGiven h b b' a a' r → r ≡ 0 → VerdictGiven g d d' c c' s → s ≡ 0 → take 2 a' ≡ take 2 c'
alike_verdict {h} {g} alike one z other y =
    let same =
    (demand_3 (value (table_in_of h)) (verdict_accepted one z)).alike (in_full one z) {s' = value (table_in_of g)} (verdict_accepted other y) alike (in_full other y)
    in
    let v = (decides one z).verdict in
    let w = (decides other y).verdict in
    let split = by_split v ∙ ap flag_of same.0 ∙ sym (by_split w) in
    let useful = sym (useful_on v) ∙ same.1 ∙ useful_on w in
    first_two one z ∙ (λ i. split i ∷ useful i ∷ []) ∙ sym (first_two other y)

pub single_join : {h g m m' : List ℕ} {r : ℕ} → JoinGiven h g m m' r → r ≡ 0
    → {b b' d d' e e' : Buffers} {i i' j j' k k' : List ℕ} {s t u : ℕ} → VerdictGiven h b b' i i' s → s ≡ 0 → get_or i' 0 0 ≡ 0
    → VerdictGiven g d d' j j' t → t ≡ 0 → get_or j' 0 0 ≡ 0 → VerdictGiven m' e e' k k' u → u ≡ 0 → get_or k' 0 0 ≡ 0
single_join join z v vz v0 w wz w0 x xz =
    (verdict_means x xz).1 ((series_of join z).holds.functional ((verdict_means v vz).0 v0) ((verdict_means w wz).0 w0))

-- ---- the translation

-- the length in the answer list
sized : {t : Transducer} {input out out' a a' : List ℕ} {r : ℕ} (k : Translates t input out out' a a' r) → r ≡ 0
    → get_or a' 0 0 ≡ answer.length_of k.translation
sized {a = a} k z = ap (λ l. get_or l 0 0) (k.given.answered z) ∙ front a _ []

translated_in_full : {t : Transducer} {input out out' a a' : List ℕ} {r : ℕ} → most_written ≤ length out → (k : Translates t input out out' a a' r)
    → TranslatedInFull (value t) input out out' (on_file k.translation)
translated_in_full room k =
    record { room = room; translated = record { translation = k.translation; translated = k.translated; answer = refl } }

translates_alike : {t u : Transducer} {input out₁ out₁' a a' out₂ out₂' c c' : List ℕ} {r s : ℕ} → accepted_of t ≡ true → accepted_of u ≡ true → Alike t u
    → Functional t → most_written ≤ length out₁ → most_written ≤ length out₂ → Translates t input out₁ out₁' a a' r → Translates u input out₂ out₂' c c' s
    → SameTranslation out₁' out₂' a' c' r s
translates_alike {t} {u} {out₁' = out₁'} {out₂' = out₂'} {r = r} {s} accepted accepted' alike functional room room' one other =
    let same =
    served_same {s = value t} {s' = value u} accepted accepted' alike functional (translated_in_full room one) (translated_in_full room' other)
    in
    let numbers = sym (number_on one.translation) ∙ same.number ∙ number_on other.translation in
    let lengths = sym (length_on one.translation) ∙ same.size ∙ length_on other.translation in
    let code : r ≡ s = one.given.code ∙ numbers ∙ sym other.given.code in
    record {
      returned = code;
      size = λ z. sized one z ∙ lengths ∙ sym (sized other (sym code ∙ z));
      codes = λ z.
          ap (λ n. take n out₁') (sized one z ∙ sym (length_on one.translation)) ∙ same.codes
          ∙ sym (ap (λ n. take n out₂') (sized other (sym code ∙ z) ∙ sym (length_on other.translation)));
    }

pub alike_translation : {h g input out₁ out₁' a a' out₂ out₂' c c' : List ℕ} {r s : ℕ} → accepted_of (table_in_of h) ≡ true → accepted_of (table_in_of g) ≡ true
    → Alike (table_in_of h) (table_in_of g) → Functional (table_in_of h) → most_written ≤ length out₁ → most_written ≤ length out₂
    → TranslationGiven h input out₁ out₁' a a' r → r ≢ list_too_short → TranslationGiven g input out₂ out₂' c c' s → s ≢ list_too_short
    → SameTranslation out₁' out₂' a' c' r s
alike_translation {h} {g} {a = a} {c = c} accepted accepted' alike functional room room' one n other m =
    translates_alike accepted accepted' alike functional room room'
    (answered one.call (lent translate_answer a h) n) (answered other.call (lent translate_answer c g) m)

-- ---- the word test agrees with it

flag_true : (b : Bool) → (flag_of b ≡ 1) ↔ (b ≡ true)
flag_true true = (λ _. refl, λ _. refl)
flag_true false = (λ e. absurd (omega arith), λ e. ap flag_of e)

-- a translation gives an output exactly where the translator does
output_exactly : {t : Transducer} {input out out' c c' output : List ℕ} {s : ℕ} (k : Translates t input out out' c c' s)
    → Gives output out' k.translation ↔ OutputGiven output out' c' s
output_exactly {s = s} k = (
  λ g. let z : s ≡ 0 = k.given.code ∙ g.success in record { done = z; size = sized k z ∙ g.size; codes = g.codes },
  λ o. let z = o.done in record { success = sym k.given.code ∙ z; size = sym (sized k z) ∙ o.size; codes = o.codes },
)

tests_agree : {t : Transducer} {input output a a' out out' c c' : List ℕ} {r s : ℕ} → Functional t → most_written ≤ length out → Tests t input output a a' r
    → r ≡ 0 → Translates t input out out' c c' s → (get_or a' 0 0 ≡ 1) ↔ OutputGiven output out' c' s
tests_agree {t} {input} {output} {a} {a'} {out} {out'} functional room tests z k =
    let none = sym (tests.given.code ∙ tests.tested.number) ∙ z in
    let first : get_or a' 0 0 ≡ flag_of (test.says_yes tests.acceptance) = ap (λ l. get_or l 0 0) (tests.given.answered z) ∙ front a _ [] in
    let agree =
    words.agreement t input output functional none out out' tests.acceptance k.translation room tests.tested k.translated
    in
    let flag = flag_true (test.says_yes tests.acceptance) in
    let given = output_exactly k in (
      λ e. given.0 (agree.0 (flag.0 (sym first ∙ e))),
      λ o. first ∙ flag.1 (agree.1 (given.1 o)),
    )

pub agreement : {h input output a a' out out' c c' : List ℕ} {r s : ℕ} → Functional (table_in_of h) → AcceptsGiven h input output a a' r → r ≡ 0
    → most_written ≤ length out → TranslationGiven h input out out' c c' s → s ≢ list_too_short → (get_or a' 0 0 ≡ 1) ↔ OutputGiven output out' c' s
agreement {h} {a = a} {c = c} functional g z room k n =
    tests_agree functional room (done g.call (lent accepts_answer a h) z) z (answered k.call (lent translate_answer c h) n)
