-- What is printed, said of the file and the input word alone: what the contracts promise comes to `VerdictPrinted` and `TranslationPrinted`. The
-- buffers are lent in full, so neither 7 nor 8 is ever printed. For a refused file and for a functional transducer the contracts determine all that
-- is left in the buffer; of a split table document 01 leaves open which witness, and which output, is printed. Assumes nothing.
use mathlib.Core.Path.{◌≡◌, refl, sym, ap, ◌∙◌}
use mathlib.Core.Bool.{true, false}
use mathlib.Core.List.{List}
use mathlib.Core.Logic.{◌≢◌, ◌⊎◌, inl, inr}
use Prim.Native.Nat.{ℕ}
use native.Mathlib.Decide.{ℕ_discrete}
use native.Mathlib.Omega.{arith}
use lib.ListN.{length, length-replicate}
use Rattle.transducer.specs.Transition.{bytes_of}
use Rattle.transducer.specs.Paths.{Functional}
use Rattle.buffers.specs.Put.{Puts}
use Rattle.transducer.proofs.SizeLaws.{length_bytes}
use Rattle.buffers.proofs.PutLaws.{front_put}
use Rattle.translator.specs.Words as words
use Rattle.translator.specs.Translated.{Outcome, Translated}
use Rattle.std.specs.Prelude.{Result, Ok, Err}
use Rattle.std.specs.Result.{result_and}
use Rattle.transducer.specs.declared.refusals.Refusal.{Refusal}
use Rattle.tablereader.specs.Outcome as outcome
use Rattle.tablereader.specs.Outcome.{record_of}
use Rattle.tablereader.specs.Reader.{read_of}
use Rattle.tablereader.specs.declared.FileRefusal.{FileRefusal}
use Rattle.witness.specs.Showing.{Buffers}
use Rattle.functionality.specs.Decided.{long_enough, full_of, refusal_of, verdict_of, Decided}
use Rattle.functionality.specs.declared.Verdict.{Verdict}
use Rattle.functionality.proofs.VerdictLaws.{refusal_none}
use Rattle.functionality.proofs.DecidedLaws.{zero_or_one}
use Rattle.tablereader.proofs.Validity.{read_accepted}
use Rattle.engine.specs.Engine.{number_of, Taken, table_of, on_file, Judgement, FileTranslation, split_of, Judged, FileTranslated}
use Rattle.engine.proofs.EngineLaws.{number_on, record_on, split_on, useful_on, counts_on, length_on, judged_determined, file_translated_determined}
use Rattle.listing.specs.Listing.{refusal_listing, most_translated}
use Rattle.report.specs.Report.{lent, judgement_listing, VerdictReport, lent_output, answer_listing, TranslationReport}
use Rattle.report.specs.Printed.{VerdictPrinted, TranslationPrinted}
use Rattle.report.proofs.ReportLaws.{lent_sized, refusal_listed, verdict_listed, refusal_answered, output_answered}

-- ---- the verdict

-- the buffers are lent in full
pub lent_full : full_of lent ≡ true
unfolding long_enough
lent_full = rw (lent_sized.word, lent_sized.path_a, lent_sized.path_b, lent_sized.output_x, lent_sized.output_y)

-- of a refused file the refusal is printed
refused_listed : (v : Verdict) (b : Buffers) {A : Type 0} (x : Result A FileRefusal) → outcome.number_of x ≢ 0
    → judgement_listing (result_and x (Ok v)) b ≡ refusal_listing (outcome.number_of x) (record_of x)
refused_listed v b (Ok a) n = absurd (n refl)
refused_listed v b (Err e) n = refusal_listed (Err e) b n

module _ {f : List ℕ} {b : Buffers} where
  -- what is printed of a verdict on the file's transducer
  decided_printed : {v : Result Verdict Refusal} → Taken f → Decided (table_of f) lent b v → VerdictPrinted f (judgement_listing (on_file v) b)
  decided_printed {v} t d = go (zero_or_one v)
    where
      taken : refusal_of (table_of f) lent ≡ 0
      taken = refusal_none (table_of f) lent (read_accepted f) lent_full

      none : outcome.number_of (on_file v) ≡ 0
      none = number_on v ∙ d.number ∙ taken

      go : (verdict_of v ≡ 0) ⊎ (verdict_of v ≡ 1) → VerdictPrinted f (judgement_listing (on_file v) b)
      go (inl e) =
          VerdictPrinted.single t ((d.single taken).0 e) (d.useful taken)
          (verdict_listed (on_file v) b none ∙ rw (split_on v, useful_on v, counts_on v, e, (d.unchanged e).1))
      go (inr e) =
          let show = d.shows e in
          VerdictPrinted.split t (λ k. let z = (d.single taken).1 k in omega arith) (d.useful taken) show.shown
          (verdict_listed (on_file v) b none ∙ rw (split_on v, useful_on v, counts_on v, e, show.counts, show.filled) (simp front_put))

  judged_printed : {r : Judgement} → Judged f lent b r → VerdictPrinted f (judgement_listing r b)
  judged_printed {r} h = go (ℕ_discrete (number_of f) 0)
    where
      go : Dec (number_of f ≡ 0) → VerdictPrinted f (judgement_listing r b)
      go (yes t) = rw (h.taken t).answer (decided_printed t (h.taken t).decided)
      go (no n) = rw (h.refused n).0 (VerdictPrinted.refused n (refused_listed _ b (read_of f) n))

-- what the verdict program prints of a file
pub verdict_printed : {f out₀ out : List ℕ} {n : ℕ} (h : VerdictReport f out₀ out n) → VerdictPrinted f (judgement_listing h.judgement h.buffers)
verdict_printed h = judged_printed h.judged

-- ---- the translation

-- the buffer has as many places as any output has codes
lent_output_lem : length lent_output ≡ most_translated
unfolding lent_output
lent_output_lem = length-replicate {A = ℕ} most_translated 0

-- of a refused file the refusal is printed
refused_answered : (m : ℕ) (output : List ℕ) {A : Type 0} (x : Result A FileRefusal) → outcome.number_of x ≢ 0
    → answer_listing (result_and x (Ok m)) output ≡ refusal_listing (outcome.number_of x) (record_of x)
refused_answered m output (Ok a) n = absurd (n refl)
refused_answered m output (Err e) n = refusal_answered (Err e) output n

module _ {f input output : List ℕ} where
  -- what is printed of a translation by the file's transducer
  translated_printed : {v : Result ℕ Refusal} → Taken f → Translated (table_of f) input lent_output output v
      → TranslationPrinted f input (answer_listing (on_file v) output)
  translated_printed {v} t d = go (ℕ_discrete (words.refusal_of (table_of f) input) 0)
    where
      q : FileTranslation
      q = on_file v

      outcome : words.refusal_of (table_of f) input ≡ 0 → Outcome (table_of f) input lent_output output v
          → TranslationPrinted f input (answer_listing q output)
      outcome z (Outcome.written {y = y} a few fits n k o) =
          TranslationPrinted.written t z a (output_answered q output (number_on v ∙ n) ∙ rw (length_on v, k, o, ← length_bytes y, front_put lent_output (bytes_of y)))
      outcome z (Outcome.unread never n) =
          TranslationPrinted.unread t z never (refusal_answered q output (λ e. omega (arith, number_on v, e)) ∙ rw (number_on v, record_on v, n))
      outcome z (Outcome.short a few long n) = absurd (omega (arith, lent_output_lem))

      go : Dec (words.refusal_of (table_of f) input ≡ 0) → TranslationPrinted f input (answer_listing q output)
      go (yes z) = outcome z (d.answered z)
      go (no z) =
          let n = d.refused z in
          TranslationPrinted.unfit t z (refusal_answered q output (λ e. z (sym (number_on v ∙ n) ∙ e)) ∙ rw (number_on v, record_on v, n))

  answered_printed : {q : FileTranslation} → FileTranslated f input lent_output output q → TranslationPrinted f input (answer_listing q output)
  answered_printed {q} h = go (ℕ_discrete (number_of f) 0)
    where
      go : Dec (number_of f ≡ 0) → TranslationPrinted f input (answer_listing q output)
      go (yes t) = rw (h.taken t).answer (translated_printed t (h.taken t).translated)
      go (no n) = rw (h.refused n).0 (TranslationPrinted.refused n (refused_answered 0 output (read_of f) n))

-- what the translating program prints of a file and an input word
pub translation_printed : {f input out₀ out : List ℕ} {n : ℕ} (h : TranslationReport f input out₀ out n)
    → TranslationPrinted f input (answer_listing h.answer h.output)
translation_printed h = answered_printed h.translated

-- ---- what the contracts determine

-- the same listing leaves the same in the buffer
same_put : {out₀ listing listing' out out' : List ℕ} {n n' : ℕ} → listing ≡ listing' → Puts out₀ 0 listing out n → Puts out₀ 0 listing' out' n'
    → (out ≡ out') × (n ≡ n')
same_put e p p' = (cc, cc)

-- a refused file gives none that is split
refused_single : (v : Verdict) {A : Type 0} (x : Result A FileRefusal) → outcome.number_of x ≢ 0 → split_of (result_and x (Ok v)) ≡ false
refused_single v (Ok a) n = absurd (n refl)
refused_single v (Err e) n = refl

-- a judgement is not split where the file is refused or its transducer is functional
functional_single : {f : List ℕ} {b : Buffers} {r : Judgement} → (Taken f → Functional (table_of f)) → Judged f lent b r → split_of r ≡ false
functional_single {f} {r = r} functional h = go (ℕ_discrete (number_of f) 0)
  where
    go : Dec (number_of f ≡ 0) → split_of r ≡ false
    go (yes t) =
        let d = (h.taken t).decided in
        let single = (d.single (refusal_none (table_of f) lent (read_accepted f) lent_full)).1 (functional t) in
        ap split_of (h.taken t).answer ∙ split_on (h.taken t).verdict ∙ rw single
    go (no n) = ap split_of (h.refused n).0 ∙ refused_single _ (read_of f) n

pub verdict_determined : {f out₀ out out' : List ℕ} {n n' : ℕ} → (Taken f → Functional (table_of f)) → VerdictReport f out₀ out n
    → VerdictReport f out₀ out' n' → (out ≡ out') × (n ≡ n')
verdict_determined functional h h' =
    let same = (judged_determined h.judged h'.judged).unless_split (functional_single functional h.judged) in
    same_put (rw (same.0, same.1)) h.puts h'.puts

pub translation_determined : {f input out₀ out out' : List ℕ} {n n' : ℕ} → (Taken f → Functional (table_of f)) → TranslationReport f input out₀ out n
    → TranslationReport f input out₀ out' n' → (out ≡ out') × (n ≡ n')
translation_determined functional h h' =
    let same = file_translated_determined h.translated h'.translated functional in
    same_put (rw (same.0, same.1)) h.puts h'.puts
