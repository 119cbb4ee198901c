-- What the engine answers is within the sizes of document 01, so there is room for its listing; and what the reports put. Assumes nothing.
use mathlib.Core.Path.{◌≡◌, refl, sym, ◌∙◌}
use mathlib.Core.Bool.{true, false}
use mathlib.Core.List.{List, []}
use mathlib.Core.Logic.{◌≢◌, ◌⊎◌, inl, inr}
use Prim.Native.Nat.{ℕ, ◌≤◌}
use native.Mathlib.Decide.{ℕ_discrete}
use native.Mathlib.Omega.{arith}
use borrow.Author.Tests.{eq-eqb, ne_eqb}
use lib.ListN.{length, take, length-take, length-append, length-drop, length-replicate}
use Rattle.transducer.specs.declared.Transducer.{Transducer}
use Rattle.buffers.specs.Put.{put, Room, Puts}
use Rattle.buffers.proofs.PutsLaws.{puts_length}
use Rattle.wordsearch.specs.Limits as limits
use Rattle.std.specs.Result.{result_and}
use Rattle.std.specs.Prelude.{Some, None, Result, Ok, Err}
use Rattle.transducer.specs.Refusals.{refusal_number}
use Rattle.transducer.specs.declared.refusals.Refusal.{Refusal}
use Rattle.transducer.proofs.RefusalLaws.{refusal_number_some}
use Rattle.tablereader.specs.Outcome as outcome
use Rattle.tablereader.specs.Outcome.{record_of}
use Rattle.tablereader.specs.Reader.{read_of}
use Rattle.tablereader.specs.declared.FileRefusal.{FileRefusal}
use Rattle.translator.specs.Numbers as translation
use Rattle.translator.specs.Words.{refusal_of}
use Rattle.translator.specs.Translated.{Outcome, Translated}
use Rattle.translator.proofs.TranslationLaws.{refused_length}
use Rattle.witness.specs.Showing as showing
use Rattle.witness.specs.Showing.{Buffers, put_all, x_in, y_in}
use Rattle.witness.specs.declared.Counts.{Counts}
use Rattle.functionality.specs.Decided as verdict
use Rattle.functionality.specs.Decided.{verdict_of, no_counts, Decided}
use Rattle.functionality.specs.declared.Verdict.{Verdict}
use Rattle.functionality.proofs.DecidedLaws.{zero_or_one}
use Rattle.engine.specs.Engine.{number_of, Judgement, FileTranslation, split_of, useful_of, counts_of, length_of, Judged, FileTranslated}
use Rattle.engine.proofs.EngineLaws.{counts_on, length_on}
use Rattle.listing.specs.Listing.{verdict_listing, refusal_listing, translation_listing, VerdictRoom}
use Rattle.listing.specs.Listing.{most_steps, most_shown, most_verdict_bytes, most_translated, most_translation_bytes}
use Rattle.listing.proofs.ListingLaws.{refusal_length, translation_length, verdict_listing_room}
use Rattle.report.specs.Report.{lent, judgement_listing, VerdictReport, lent_output, answer_listing, TranslationReport}

-- ---- lists

-- what is taken from a list is no longer than asked for
pub taken_most : (n : ℕ) (l : List ℕ) → length (take n l) ≤ n
taken_most n l = omega (arith, length-take n l)

-- what is put at the front of a buffer and leaves its length is no longer than the buffer
put_fits : {n : ℕ} (out vs : List ℕ) → length out ≡ n → length (put out 0 vs) ≡ n → length vs ≤ n
unfolding put
put_fits out vs e k = omega (arith, simp (length-append, length-drop) at k)

-- the place behind what was put at the front of a buffer is within the buffer
within : {out₀ bytes out : List ℕ} {n : ℕ} → Room out₀ 0 bytes → Puts out₀ 0 bytes out n → n ≤ length out
within room p = omega (arith, room.room, p.place, puts_length room p)

-- ---- a verdict

-- each count is at most the size of its buffer in document 01
pub record Few (r : Counts) : Type 0 where
  pub word : r.word ≤ most_steps
  pub path_a : r.path_a ≤ most_steps
  pub path_b : r.path_b ≤ most_steps
  pub output_x : r.output_x ≤ most_shown
  pub output_y : r.output_y ≤ most_shown

-- the buffers are lent in full, no more
pub record Sized (b : Buffers) : Type 0 where
  pub word : length b.word ≡ most_steps
  pub path_a : length b.path_a ≡ most_steps
  pub path_b : length b.path_b ≡ most_steps
  pub output_x : length b.output_x ≡ most_shown
  pub output_y : length b.output_y ≡ most_shown

-- no items are few
none_few : Few no_counts
none_few = record { word = omega arith; path_a = omega arith; path_b = omega arith; output_x = omega arith; output_y = omega arith }

-- lists that are put into such buffers and leave their lengths are few
put_few : (b s : Buffers) → Sized b → Sized (put_all b s) → Few (showing.counts_of s)
put_few b s h h' =
    record {
      word = put_fits b.word s.word h.word h'.word;
      path_a = put_fits b.path_a s.path_a h.path_a h'.path_a;
      path_b = put_fits b.path_b s.path_b h.path_b h'.path_b;
      output_x = put_fits b.output_x s.output_x h.output_x h'.output_x;
      output_y = put_fits b.output_y s.output_y h.output_y h'.output_y;
    }

verdict_few : {t : Transducer} {b b' : Buffers} {v : Result Verdict Refusal} → Decided t b b' v → Sized b → Sized b' → Few (verdict.counts_of v)
verdict_few {b = b} {b'} {v} d s s' = go (zero_or_one v)
  where
    go : (verdict_of v ≡ 0) ⊎ (verdict_of v ≡ 1) → Few (verdict.counts_of v)
    go (inl e) = rw (d.unchanged e).1 none_few
    go (inr e) = let show = d.shows e in rw show.counts (put_few b show.lists s (rw show.filled at s'))

-- with a refusal there are none
refused_few : (v : Verdict) {A : Type 0} (r : Result A FileRefusal) → outcome.number_of r ≢ 0 → Few (counts_of (result_and r (Ok v)))
refused_few v (Ok a) n = absurd (n refl)
refused_few v (Err e) n = none_few

-- the items that a judgement counts are few
pub judged_few : {f : List ℕ} {b b' : Buffers} {r : Judgement} → Judged f b b' r → Sized b → Sized b' → Few (counts_of r)
judged_few {f} {b} {b'} {r} h s s' = go (ℕ_discrete (number_of f) 0)
  where
    go : Dec (number_of f ≡ 0) → Few (counts_of r)
    go (yes t) = rw ((h.taken t).answer, counts_on (h.taken t).verdict) (verdict_few (h.taken t).decided s s')
    go (no n) = rw (h.refused n).0 (refused_few _ (read_of f) n)

-- so are those of a witness
pub split_few : {r : Judgement} {v : Verdict} {c : Counts} → r ≡ Ok v → v.witness ≡ Some c → Few (counts_of r) → Few c
split_few same some few = rw (same, some) at few

-- the buffers that are lent are lent in full
pub lent_sized : Sized lent
unfolding lent
lent_sized =
    record {
      word = length-replicate {A = ℕ} most_steps 0;
      path_a = length-replicate {A = ℕ} most_steps 0;
      path_b = length-replicate {A = ℕ} most_steps 0;
      output_x = length-replicate {A = ℕ} most_shown 0;
      output_y = length-replicate {A = ℕ} most_shown 0;
    }

-- so there is room for their listing
pub items_room : {r : Counts} {out : List ℕ} (b : Buffers) → Few r → most_verdict_bytes ≤ length out
    → VerdictRoom (take r.word b.word) (take r.path_a b.path_a) (take r.path_b b.path_b)
    (take r.output_x b.output_x) (take r.output_y b.output_y) out
items_room {r} b few h =
    record {
      word = omega (arith, taken_most r.word b.word, few.word);
      path_a = omega (arith, taken_most r.path_a b.path_a, few.path_a);
      path_b = omega (arith, taken_most r.path_b b.path_b, few.path_b);
      output_x = omega (arith, taken_most r.output_x b.output_x, few.output_x);
      output_y = omega (arith, taken_most r.output_y b.output_y, few.output_y);
      room = h;
    }

-- the listing of a judgement by its number
module _ (r : Judgement) (b : Buffers) where
  pub refusal_listed : outcome.number_of r ≢ 0 → judgement_listing r b ≡ refusal_listing (outcome.number_of r) (record_of r)
  unfolding judgement_listing
  refusal_listed k = rw (ne_eqb _ _ k)

  pub verdict_listed : outcome.number_of r ≡ 0
      → judgement_listing r b
      ≡ verdict_listing (split_of r) (useful_of r) (take (counts_of r).word b.word) (take (counts_of r).path_a b.path_a)
      (take (counts_of r).path_b b.path_b) (x_in b (counts_of r)) (y_in b (counts_of r)) (counts_of r).shared
  unfolding judgement_listing
  verdict_listed k = rw (eq-eqb _ _ k)

-- it is put
module _ {f out₀ out : List ℕ} {b : Buffers} {r : Judgement} {n : ℕ} (h : Judged f lent b r) (room : most_verdict_bytes ≤ length out₀) where
  verdict_report : outcome.number_of r ≡ 0 → Sized b
      → Puts out₀ 0
      (verdict_listing (split_of r) (useful_of r) (take (counts_of r).word b.word) (take (counts_of r).path_a b.path_a)
      (take (counts_of r).path_b b.path_b) (x_in b (counts_of r)) (y_in b (counts_of r)) (counts_of r).shared)
      out n
      → VerdictReport f out₀ out n
  verdict_report k s p =
      record {
        judgement = r;
        buffers = b;
        judged = h;
        puts = rw (verdict_listed r b k) p;
        fits = within (verdict_listing_room (split_of r) (useful_of r) (counts_of r).shared (items_room b (judged_few h lent_sized s) room)) p;
      }

  pub refused_report : {e : FileRefusal} → r ≡ Err e → Puts out₀ 0 (refusal_listing (refusal_number e.refusal) e.«record») out n → VerdictReport f out₀ out n
  refused_report {e} same p =
      record {
        judgement = r;
        buffers = b;
        judged = h;
        puts = rw (same, refusal_listed (Err e) b (refusal_number_some e.refusal)) p;
        fits = within (record { room = omega (arith, refusal_length (refusal_number e.refusal) e.«record») }) p;
      }

  pub single_report : {v : Verdict} → r ≡ Ok v → v.witness ≡ None → Sized b → Puts out₀ 0 (verdict_listing false v.useful [] [] [] [] [] 0) out n
      → VerdictReport f out₀ out n
  single_report same none s p = verdict_report (rw same refl) s (rw (same, none) p)

  pub split_report : {v : Verdict} {c : Counts} {word path_a path_b output_x output_y : List ℕ} → r ≡ Ok v → v.witness ≡ Some c → Sized b
      → word ≡ take c.word b.word → path_a ≡ take c.path_a b.path_a → path_b ≡ take c.path_b b.path_b → output_x ≡ x_in b c → output_y ≡ y_in b c
      → Puts out₀ 0 (verdict_listing true v.useful word path_a path_b output_x output_y c.shared) out n
      → VerdictReport f out₀ out n
  split_report same some s w pa pb x y p = verdict_report (rw same refl) s (rw (same, some, ← w, ← pa, ← pb, ← x, ← y) p)

-- ---- a translation

-- an output has at most `most_written` codes; with a refusal there is none
output_short : {t : Transducer} {input out₀ out : List ℕ} {r : Result ℕ Refusal} → Translated t input out₀ out r → translation.length_of r ≤ limits.most_written
output_short {t} {input} {out₀} {out} {r} h = go (ℕ_discrete (refusal_of t input) 0)
  where
    outcome : Outcome t input out₀ out r → translation.length_of r ≤ limits.most_written
    outcome (Outcome.written a few fits n k o) = omega arith
    outcome (Outcome.unread never n) = let none = refused_length r (λ z. omega arith) in omega arith
    outcome (Outcome.short a few long n) = let none = refused_length r (λ z. omega arith) in omega arith

    go : Dec (refusal_of t input ≡ 0) → translation.length_of r ≤ limits.most_written
    go (yes z) = outcome (h.answered z)
    go (no z) = let none = refused_length r (λ e. z (sym (h.refused z) ∙ e)) in omega arith

refused_short : {A : Type 0} (r : Result A FileRefusal) → outcome.number_of r ≢ 0 → length_of (result_and r (Ok 0)) ≤ most_translated
refused_short (Ok a) n = absurd (n refl)
refused_short (Err e) n = omega arith

pub translation_short : {f input out₀ out : List ℕ} {q : FileTranslation} → FileTranslated f input out₀ out q → length_of q ≤ most_translated
translation_short {f} {q = q} h = go (ℕ_discrete (number_of f) 0)
  where
    go : Dec (number_of f ≡ 0) → length_of q ≤ most_translated
    go (yes t) = rw ((h.taken t).answer, length_on (h.taken t).translation) (output_short (h.taken t).translated)
    go (no n) = rw (h.refused n).0 (refused_short (read_of f) n)

-- the listing of a translation by its number
module _ (q : FileTranslation) (output : List ℕ) where
  pub refusal_answered : outcome.number_of q ≢ 0 → answer_listing q output ≡ refusal_listing (outcome.number_of q) (record_of q)
  unfolding answer_listing
  refusal_answered k = rw (ne_eqb _ _ k)

  pub output_answered : outcome.number_of q ≡ 0 → answer_listing q output ≡ translation_listing (take (length_of q) output)
  unfolding answer_listing
  output_answered k = rw (eq-eqb _ _ k)

-- it is put
module _ {f input out₀ output out : List ℕ} {q : FileTranslation} {n : ℕ} (h : FileTranslated f input lent_output output q)
    (room : most_translation_bytes ≤ length out₀)
  where
    pub refusal_report : {e : FileRefusal} → q ≡ Err e → Puts out₀ 0 (refusal_listing (refusal_number e.refusal) e.«record») out n
        → TranslationReport f input out₀ out n
    refusal_report {e} same p =
        record {
          answer = q;
          output = output;
          translated = h;
          puts = rw (same, refusal_answered (Err e) output (refusal_number_some e.refusal)) p;
          fits = within (record { room = omega (arith, refusal_length (refusal_number e.refusal) e.«record») }) p;
        }

    pub output_report : {m : ℕ} → q ≡ Ok m → Puts out₀ 0 (translation_listing (take m output)) out n → TranslationReport f input out₀ out n
    output_report {m} same p =
        let short : m ≤ most_translated = rw same at (translation_short h) in
        record {
          answer = q;
          output = output;
          translated = h;
          puts = rw (same, output_answered (Ok m) output refl) p;
          fits = within (record { room = omega (arith, translation_length (take m output), taken_most m output) }) p;
        }
