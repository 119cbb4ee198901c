-- Demand 3, from the contracts of reader, functionality test and translator alone: what is read is accepted, so with the buffers lent in full nothing is
-- refused; a single verdict means that the transducer is functional, and a split one shows two readings. Assumes nothing.
use mathlib.Core.Path.{◌≡◌, refl, sym, ap, ◌∙◌}
use mathlib.Core.Bool.{Bool, true, false}
use mathlib.Core.List.{List}
use mathlib.Core.Logic.{◌↔◌}
use Prim.Native.Nat.{ℕ, ◌*◌, ◌-◌, ◌≤◌}
use native.Mathlib.Omega.{arith}
use borrow.Author.Tests.{eqb-true, ne_eqb}
use lib.ListN.{length, take}
use Rattle.buffers.specs.Put.{put}
use Rattle.buffers.proofs.PutLaws.{put_there}
use Rattle.transducer.specs.Transition.{word_of}
use Rattle.transducer.specs.Paths.{reads, Accepting, output_of, Functional}
use Rattle.transducer.specs.Accepted.{accepted_of}
use Rattle.transducer.specs.Alike.{Alike}
use Rattle.transducer.specs.declared.Transducer.{Transducer}
use Rattle.transducer.proofs.AcceptedLaws.{accepted_valid}
use Rattle.transducer.proofs.FunctionalLaws.{functional_paths, witness_refutes}
use Rattle.transducer.proofs.AlikeLaws.{alike_functional}
use Rattle.tablereader.proofs.Validity.{read_accepted}
use Rattle.wordsearch.specs.Limits.{most_word}
use Rattle.translator.proofs.AlikeTranslated as translation
use Rattle.translator.proofs.TranslationLaws.{gives_the_output}
use Rattle.witness.specs.Showing.{Buffers, Showing}
use Rattle.witness.specs.declared.Counts.{Counts}
use Rattle.witness.proofs.ShowingLaws.{shown_witness}
use Rattle.std.specs.Prelude.{Result}
use Rattle.transducer.specs.declared.refusals.Refusal.{Refusal}
use Rattle.tablereader.specs.Outcome.{number_of}
use Rattle.functionality.specs.Decided.{refusal_of, verdict_of, UsefulCount, Decided}
use Rattle.functionality.specs.declared.Verdict.{Verdict}
use Rattle.functionality.proofs.DecidedLaws.{useful_count_unique, alike_useful_count}
use Rattle.functionality.proofs.VerdictLaws.{refusal_none}
use Rattle.engine.specs.Engine.{Judgement, FileTranslation, on_file, split_of, useful_of, counts_of, length_of, VerdictOn, AnswerBy}
use Rattle.engine.specs.Demand3.{Served, file, value, table_in_of, Admitted, VerdictFor, AnswerFor, JudgedInFull, TranslatedInFull}
use Rattle.engine.specs.Demand3.{TwoReadings, Exact, TheOutput, SameAnswer, Demand3}
use Rattle.engine.proofs.EngineLaws.{number_on, split_on, useful_on, counts_on, length_on, single_verdict}
use Rattle.engine.proofs.InputCodes.{reads_in_range}

-- ---- two readings

-- a functional transducer has no two readings
functional_one : {t : Transducer} → Functional t → ¬ (TwoReadings t)
functional_one f w = witness_refutes w.witness f

-- what a split verdict shows are two readings
shown_two : {t : Transducer} {n : ℕ} {b b' : Buffers} {c : Counts} → Showing t n b b' c → TwoReadings t
shown_two h = record { word = _; output_x = _; output_y = _; witness = shown_witness h.shown }

-- ---- flags

-- a flag that is true exactly where P holds is false exactly where it does not
false_exactly : {b : Bool} {P : Type 0} → (b ≡ true) ↔ P → (b ≡ false) ↔ (¬ P)
false_exactly {b} {P} h = (λ e p. let t = h.1 p in let z : ◌≡◌ {A = ℕ} 0 1 = cc in omega arith, go b h)
  where
    go : (b : Bool) → (b ≡ true) ↔ P → ¬ P → b ≡ false
    go true h n = absurd (n (h.0 refl))
    go false h n = refl

-- flags that are false together are the same
false_together : (a b : Bool) → (a ≡ false → b ≡ false) → (b ≡ false → a ≡ false) → a ≡ b
false_together false b f g = sym (f refl)
false_together true false f g = g refl
false_together true true f g = refl

-- ---- a verdict that is no refusal

module _ {t : Transducer} {b b' : Buffers} {v : Result Verdict Refusal} (d : Decided t b b' v) (none : refusal_of t b ≡ 0) where
  -- it is single exactly where the transducer is functional
  single_functional : (split_of (on_file v) ≡ false) ↔ Functional t
  single_functional = (
    λ e. (d.single none).0 (single_verdict v e),
    λ f. split_on v ∙ ne_eqb (verdict_of v) 1 (λ e. let z = (d.single none).1 f in omega arith),
  )

  -- it shows two readings where it is split
  split_shows : split_of (on_file v) ≡ true → Showing t (2 * useful_of (on_file v) - 1) b b' (counts_of (on_file v))
  split_shows e = rw (useful_on v, counts_on v) (d.shows (eqb-true _ _ (sym (split_on v) ∙ e)))

  -- it is exact
  exact : Exact t (on_file v)
  exact = record { number = number_on v ∙ d.number ∙ none; split = split; single = false_exactly split }
    where
      one : TwoReadings t → (b : Bool) → split_of (on_file v) ≡ b → split_of (on_file v) ≡ true
      one w true e = e
      one w false e = absurd (functional_one (single_functional.0 e) w)

      split : (split_of (on_file v) ≡ true) ↔ TwoReadings t
      split = (λ e. shown_two (split_shows e), λ w. one w (split_of (on_file v)) refl)

-- ---- what is served and not refused

-- its transducer is accepted
admitted : (s : Served) → Admitted s → accepted_of (table_in_of s) ≡ true
admitted (file f) taken = read_accepted f
admitted (value t) e = e

-- the verdict is that on its transducer, and the translator answers by that
on_table : (s : Served) {b b' : Buffers} {r : Judgement} → Admitted s → VerdictFor s b b' r → VerdictOn (table_in_of s) b b' r
on_table (file f) taken h = h.taken taken
on_table (value t) e h = h

by_table : (s : Served) {input out₀ out : List ℕ} {q : FileTranslation} → Admitted s → AnswerFor s input out₀ out q → AnswerBy (table_in_of s) input out₀ out q
by_table (file f) taken h = h.taken taken
by_table (value t) e h = h

module _ {s : Served} {b b' : Buffers} {r : Judgement} (ok : Admitted s) (h : JudgedInFull s b b' r) where
  none_refused : refusal_of (table_in_of s) b ≡ 0
  none_refused = refusal_none (table_in_of s) b (admitted s ok) h.full

  judged : VerdictOn (table_in_of s) b b' r
  judged = on_table s ok h.judged

  served_exact : Exact (table_in_of s) r
  served_exact = rw judged.answer (exact judged.decided none_refused)

  served_useful : UsefulCount (table_in_of s) (useful_of r)
  served_useful = rw (judged.answer, useful_on judged.verdict) (judged.decided.useful none_refused)

  served_shows : split_of r ≡ true → Showing (table_in_of s) (2 * useful_of r - 1) b b' (counts_of r)
  served_shows = rw judged.answer (split_shows judged.decided none_refused)

  served_functional : (split_of r ≡ false) ↔ Functional (table_in_of s)
  served_functional = rw judged.answer (single_functional judged.decided none_refused)

-- on a functional transducer the answer is the output that all accepting paths write
served_output : {s : Served} {input out₀ out : List ℕ} {q : FileTranslation} {π : List ℕ} → Admitted s → Functional (table_in_of s)
    → TranslatedInFull s input out₀ out q → length input ≤ most_word → Accepting (table_in_of s) π → reads (table_in_of s) π ≡ word_of input
    → TheOutput (table_in_of s) input out₀ out q
served_output {s} {input} {π = π} ok functional h short a e =
    let answered = by_table s ok h.translated in
    let accepted = admitted s ok in
    let given =
    gives_the_output functional accepted short (reads_in_range (accepted_valid (table_in_of s) accepted) a.path input e) h.room
    (record { π = π; accepting = a; read = e; written = refl })
    answered.translated
    in
    record {
      output = output_of (table_in_of s) a;
      all_write = λ ρ c k. (functional_paths (table_in_of s)).0 functional ρ π c a (k ∙ sym e);
      answer = answered.answer ∙ ap on_file given.0;
      written = given.1;
    }

-- what is written at the front of a buffer is its beginning
beginning : (bytes out₀ : List ℕ) {out : List ℕ} {n : ℕ} → n ≡ length bytes → out ≡ put out₀ 0 bytes → take n out ≡ bytes
beginning bytes out₀ size e = rw (e, size) (put_there out₀ 0 bytes (omega arith))

-- two that are alike get the same answer where they are functional
pub served_same : {s s' : Served} {input out₀ out out₀' out' : List ℕ} {q q' : FileTranslation} → Admitted s → Admitted s'
    → Alike (table_in_of s) (table_in_of s') → Functional (table_in_of s) → TranslatedInFull s input out₀ out q → TranslatedInFull s' input out₀' out' q'
    → SameAnswer out out' q q'
served_same {s} {s'} {out₀ = out₀} {out} {out₀'} {out'} {q} {q'} ok ok' alike functional h h' =
    let a = by_table s ok h.translated in
    let a' = by_table s' ok' h'.translated in
    let same =
    translation.alike_translates alike (admitted s ok) (admitted s' ok') a.translated a'.translated functional h.room h'.room
    in
    let answer : q ≡ q' = a.answer ∙ ap on_file same.answer ∙ sym a'.answer in
    let size : length_of q ≡ length same.bytes = ap length_of a.answer ∙ length_on a.translation ∙ same.size in
    record {
      number = ap number_of answer;
      size = ap length_of answer;
      codes = beginning same.bytes out₀ size same.one ∙ sym (beginning same.bytes out₀' (sym (ap length_of answer) ∙ size) same.other);
    }

-- ---- the theorem

pub demand_3 : (s : Served) → Admitted s → Demand3 s
demand_3 s ok =
    record {
      verdict = served_exact ok;
      useful = served_useful ok;
      shows = served_shows ok;
      translates = λ h single k short π a e. served_output ok ((served_functional ok h).0 single) k short a e;
      alike = λ h ok' alike h'. (
        false_together _ _
            (λ e. (served_functional ok' h').1 ((alike_functional alike).0 ((served_functional ok h).0 e)))
            (λ e. (served_functional ok h).1 ((alike_functional alike).1 ((served_functional ok' h').0 e))),
        useful_count_unique (alike_useful_count alike (served_useful ok h)) (served_useful ok' h'),
      );
      alike_translates = λ h single ok' alike. served_same ok ok' alike ((served_functional ok h).0 single);
    }
