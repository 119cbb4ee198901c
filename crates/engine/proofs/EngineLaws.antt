-- What the answers of the engine say, and that its contracts determine the answer where document 01 leaves nothing open: all of it for a refused
-- file; for a file that is taken all but what a split verdict shows, and all but the output of a word, and refusal 7, by a split table.
-- Assumes nothing.
use mathlib.Core.Path.{◌≡◌, refl, sym, ap, ◌∙◌}
use mathlib.Core.Bool.{false}
use mathlib.Core.List.{List}
use mathlib.Core.Logic.{◌≢◌}
use Prim.Native.Nat.{ℕ}
use native.Mathlib.Decide.{ℕ_discrete}
use native.Mathlib.Omega.{arith}
use lib.Dec.{eqb}
use Rattle.std.specs.Prelude.{is_some, Option, Some, None, Result, Ok, Err}
use Rattle.transducer.specs.Refusals as call
use Rattle.transducer.specs.Refusals.{too_short_of}
use Rattle.transducer.specs.Paths.{Functional}
use Rattle.transducer.specs.declared.Transducer.{Transducer}
use Rattle.transducer.specs.declared.refusals.Refusal.{Refusal}
use Rattle.transducer.proofs.AlikeLaws.{alike_self}
use Rattle.transducer.proofs.RefusalLaws.{same_answer}
use Rattle.tablereader.specs.Outcome as outcome
use Rattle.tablereader.proofs.Validity.{read_accepted}
use Rattle.translator.specs.Numbers as translation
use Rattle.translator.proofs.TranslationLaws.{translated_determined}
use Rattle.translator.proofs.AlikeTranslated.{alike_refuses}
use Rattle.witness.specs.Showing.{Buffers}
use Rattle.witness.specs.declared.Counts.{Counts}
use Rattle.functionality.specs.Decided as verdict
use Rattle.functionality.specs.Decided.{split_by, verdict_of, Decided}
use Rattle.functionality.specs.declared.Verdict.{Verdict}
use Rattle.functionality.proofs.DecidedLaws.{decided_determined}
use Rattle.engine.specs.Engine.{number_of, Taken, table_of, on_file, Judgement, FileTranslation, split_of, useful_of, counts_of, length_of}
use Rattle.engine.specs.Engine.{Judged, Agree, FileTranslated}

-- ---- what is answered of the transducer of a file

-- the number is that of functionality test or translator, and there is no record
pub number_on : {A : Type 0} (r : Result A Refusal) → outcome.number_of (on_file r) ≡ call.number_of r
number_on (Ok a) = refl
number_on (Err refusal) = refl

pub record_on : {A : Type 0} (r : Result A Refusal) → outcome.record_of (on_file r) ≡ 0
record_on (Ok a) = refl
record_on (Err refusal) = refl

-- so are verdict, u, counts and length
pub split_on : (v : Result Verdict Refusal) → split_of (on_file v) ≡ eqb (verdict_of v) 1
split_on (Ok v) = go v.witness
  where
    go : (w : Option Counts) → is_some w ≡ eqb (split_by w) 1
    go None = refl
    go (Some counts) = refl
split_on (Err refusal) = refl

pub useful_on : (v : Result Verdict Refusal) → useful_of (on_file v) ≡ verdict.useful_of v
useful_on (Ok v) = refl
useful_on (Err refusal) = refl

pub counts_on : (v : Result Verdict Refusal) → counts_of (on_file v) ≡ verdict.counts_of v
counts_on (Ok v) = refl
counts_on (Err refusal) = refl

pub length_on : (r : Result ℕ Refusal) → length_of (on_file r) ≡ translation.length_of r
length_on (Ok n) = refl
length_on (Err refusal) = refl

-- a judgement that is not split comes from a verdict that is not
pub single_verdict : (v : Result Verdict Refusal) → split_of (on_file v) ≡ false → verdict_of v ≡ 0
single_verdict (Ok v) e = go v.witness e
  where
    go : (w : Option Counts) → is_some w ≡ false → split_by w ≡ 0
    go None e = refl
    go (Some counts) e = let z : ◌≡◌ {A = ℕ} 0 1 = cc in absurd (omega arith)
single_verdict (Err refusal) e = refl

-- ---- what the contracts determine

same_agree : {b' b'' : Buffers} {r r' : Judgement} → r ≡ r' → b' ≡ b'' → Agree b' b'' r r'
same_agree e k =
    record {
      number = ap outcome.number_of e;
      at_record = ap outcome.record_of e;
      split = ap split_of e;
      useful = ap useful_of e;
      shared = λ _ _. ap (λ r. (counts_of r).shared) e;
      unless_split = λ _. (e, k);
    }

-- they do where they come from two verdicts on one transducer
verdicts_agree : {t : Transducer} {b b' b'' : Buffers} {v v' : Result Verdict Refusal} → Decided t b b' v → Decided t b b'' v'
    → Agree b' b'' (on_file v) (on_file v')
verdicts_agree {v = v} {v'} d d' =
    let same = decided_determined d d' in
    record {
      number = number_on v ∙ same.number ∙ sym (number_on v');
      at_record = record_on v ∙ sym (record_on v');
      split = split_on v ∙ ap (λ n. eqb n 1) same.verdict ∙ sym (split_on v');
      useful = useful_on v ∙ same.useful ∙ sym (useful_on v');
      shared = rw (counts_on v, counts_on v') same.shared;
      unless_split = λ e. let whole = same.unless_split (single_verdict v e) in (ap on_file whole.0, whole.1);
    }

-- the contract determines the judgement
pub judged_determined : {f : List ℕ} {b b' b'' : Buffers} {r r' : Judgement} → Judged f b b' r → Judged f b b'' r' → Agree b' b'' r r'
judged_determined {f} {b' = b'} {b''} {r} {r'} h h' = go (ℕ_discrete (number_of f) 0)
  where
    go : Dec (number_of f ≡ 0) → Agree b' b'' r r'
    go (yes t) =
        let a = h.taken t in
        let a' = h'.taken t in
        rw (a.answer, a'.answer) (verdicts_agree a.decided a'.decided)
    go (no n) = same_agree ((h.refused n).0 ∙ sym (h'.refused n).0) ((h.refused n).1 ∙ sym (h'.refused n).1)

module _ {f input out₀ out out' : List ℕ} {q q' : FileTranslation}
    (h : FileTranslated f input out₀ out q) (h' : FileTranslated f input out₀ out' q')
  where
    -- a refused file, or one whose transducer is functional, gets one answer
    pub file_translated_determined : (Taken f → Functional (table_of f)) → (q ≡ q') × (out ≡ out')
    file_translated_determined functional = go (ℕ_discrete (number_of f) 0)
      where
        go : Dec (number_of f ≡ 0) → (q ≡ q') × (out ≡ out')
        go (yes t) =
            let a = h.taken t in
            let a' = h'.taken t in
            let same = translated_determined (functional t) a.translated a'.translated in
            (a.answer ∙ ap on_file same.0 ∙ sym a'.answer, same.1)
        go (no n) = ((h.refused n).0 ∙ sym (h'.refused n).0, (h.refused n).1 ∙ sym (h'.refused n).1)

    -- any other refusal than that of a short buffer is given whatever the transducer is
    pub file_refusal_determined : outcome.number_of q ≢ 0 → outcome.number_of q ≢ too_short_of → (q ≡ q') × (out ≡ out')
    file_refusal_determined n s = go (ℕ_discrete (number_of f) 0)
      where
        go : Dec (number_of f ≡ 0) → (q ≡ q') × (out ≡ out')
        go (yes t) =
            let a = h.taken t in
            let a' = h'.taken t in
            let k : outcome.number_of q ≡ call.number_of a.translation = ap outcome.number_of a.answer ∙ number_on a.translation in
            let n₁ : call.number_of a.translation ≢ 0 = λ z. n (k ∙ z) in
            let same =
            alike_refuses (alike_self (table_of f)) (read_accepted f) (read_accepted f) a.translated a'.translated n₁ (λ z. s (k ∙ z))
            in
            let n₂ : call.number_of a'.translation ≢ 0 = λ z. n₁ (same ∙ z) in
            let one = same_answer a.translation a'.translation same (λ x y ok ok'. absurd (n₁ (ap call.number_of ok))) in (
              a.answer ∙ ap on_file one ∙ sym a'.answer,
              a.translated.unchanged n₁ ∙ sym (a'.translated.unchanged n₂),
            )
        go (no z) = ((h.refused z).0 ∙ sym (h'.refused z).0, (h.refused z).1 ∙ sym (h'.refused z).1)
