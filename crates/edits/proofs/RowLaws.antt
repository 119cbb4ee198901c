-- Calls in a row: each hands over what the edit of the lines makes, so all of them hand over what the edits make one after the other. Assumes nothing.
use mathlib.Core.Path.{◌≡◌, refl, sym, ap, ◌∙◌}
use mathlib.Core.Bool.{Bool, true, false, cond}
use mathlib.Core.List.{List, ◌∷◌}
use Prim.Native.Nat.{ℕ, ◌<◌}
use Rattle.std.specs.Prelude.{Result}
use native.Mathlib.Decide.{ℕ_discrete}
use native.Mathlib.Omega.{arith}
use borrow.Author.Tests.{eq-eqb, ne_eqb, ltb-true}
use lib.Dec.{eqb, ltb}
use lib.ListN.{length}
use Rattle.transducer.specs.Limits.{most_transitions}
use Rattle.transducer.specs.Refusals.{invalid, number_of}
use Rattle.transducer.specs.Valid.{line_of, Valid, Shaped}
use Rattle.transducer.specs.Accepted.{accepted_of}
use Rattle.transducer.specs.Lines.{lines_of, transducer_of}
use Rattle.transducer.specs.declared.StateSet.{StateSet}
use Rattle.transducer.specs.declared.Transition.{Transition}
use Rattle.transducer.specs.declared.Transducer.{Transducer}
use Rattle.transducer.specs.declared.refusals.Refusal.{Refusal}
use Rattle.transducer.proofs.Facts.{line_exactly}
use Rattle.transducer.proofs.RefusalLaws.{this_one, no_fault, none_of}
use Rattle.transducer.proofs.AcceptedLaws.{accepted_valid, made_again, made_valid_accepted}
use Rattle.transducer.proofs.LineLaws.{lines_long, made_lines, appended_valid, appended_shaped}
use Rattle.transducer.proofs.RemovalLaws.{removed_valid, removed_shaped}
use Rattle.edits.specs.Edits.{Edit, append, remove, Whole, with_line_lem, with_number, line_refusal, edit_lines, refusal_of, edit_of, edited_of, EditedBy}
use Rattle.edits.specs.Rows.{Calls, no_call, call, after_edit, after_edits, refusals_of, InARow}
use Rattle.edits.proofs.CallLaws.{past_8, append_makes, remove_makes}

-- ---- an edit that is not refused

module _ (n : ℕ) (lines : List Transition) where
  append_taken : (v : Transition) → line_refusal n lines (append v) ≡ 0 → (line_of n v ≡ true) × (length lines < most_transitions)
  unfolding line_refusal
  append_taken v e =
      let line = none_of _ e in
      let room = none_of _ line.1 in
      (no_fault (line_of n v) (λ z. omega arith) line.0, ltb-true _ _ (no_fault (ltb (length lines) most_transitions) (λ z. omega arith) room.0))

  remove_taken : (l : ℕ) → line_refusal n lines (remove l) ≡ 0 → l < length lines
  unfolding line_refusal
  remove_taken l e = ltb-true _ _ (no_fault (ltb l (length lines)) (λ z. omega arith) e)

-- keeps the rules
edit_valid : (t : Transducer) (e : Edit) → Valid t → line_refusal t.states (lines_of t) e ≡ 0 → Valid (edit_of t e)
edit_valid t (append v) h z =
    let taken = append_taken t.states (lines_of t) v z in
    rw (append_makes t v) (appended_valid t v h (omega (arith, lines_long t, taken.1)) ((line_exactly t.states v).0 taken.0))
edit_valid t (remove l) h z =
    rw (remove_makes t l) (removed_valid t l h (omega (arith, lines_long t, remove_taken t.states (lines_of t) l z)))

-- and so is accepted
pub edit_accepted : (t : Transducer) (e : Edit) → accepted_of t ≡ true → line_refusal t.states (lines_of t) e ≡ 0 → accepted_of (edit_of t e) ≡ true
unfolding edit_of
edit_accepted t e accepted z = made_valid_accepted t.states t.starts t.finals (edit_lines (lines_of t) e) (edit_valid t e (accepted_valid t accepted) z)

-- and its arrays have their lengths
pub edit_shaped : (t : Transducer) (e : Edit) → Valid t → Shaped t → Whole e → line_refusal t.states (lines_of t) e ≡ 0 → Shaped (edit_of t e)
edit_shaped t e h s (with_line_lem v same size) z =
    let taken = append_taken t.states (lines_of t) v (rw same at z) in
    rw (same, append_makes t v) (appended_shaped t v s (omega (arith, lines_long t, taken.1)) size)
edit_shaped t e h s (with_number l same) z =
    let there = remove_taken t.states (lines_of t) l (rw same at z) in
    rw (same, remove_makes t l) (removed_shaped t l h s (omega (arith, lines_long t, there)))

-- ---- one call

-- of a transducer that is not accepted: 8, and the transducer handed back
pub one_refused : {t : Transducer} {e : Edit} {r : Result Transducer Refusal} → accepted_of t ≡ false → EditedBy t e r → (number_of r ≡ invalid) × (edited_of t r ≡ t)
unfolding refusal_of
one_refused {t} {e} a h =
    let number : invalid ≡ refusal_of t e = this_one _ (rw a refl) (λ z. omega arith) in
    (h.number ∙ sym number, h.table ∙ rw (ne_eqb (refusal_of t e) 0 (λ z. omega (arith, number))) refl)

module _ {t : Transducer} {e : Edit} {r : Result Transducer Refusal} (accepted : accepted_of t ≡ true) (h : EditedBy t e r) where
  abbrev refusal : ℕ
  refusal = line_refusal t.states (lines_of t) e

  -- it refuses what the edit of the lines refuses
  same_refusal : refusal_of t e ≡ refusal
  same_refusal = sym (past_8 t e accepted refl)

  pub one_number : number_of r ≡ refusal
  one_number = h.number ∙ same_refusal

  pub one_handed : edited_of t r ≡ cond (eqb refusal 0) (edit_of t e) t
  one_handed = h.table ∙ ap (λ n. cond (eqb n 0) (edit_of t e) t) same_refusal

  -- and hands over what that makes
  one_table : Shaped t → edited_of t r ≡ transducer_of t.states t.starts t.finals (after_edit t.states (lines_of t) e)
  unfolding edit_of after_edit
  one_table shaped = one_handed ∙ go (eqb refusal 0)
    where
      go : (x : Bool) → cond x (transducer_of t.states t.starts t.finals (edit_lines (lines_of t) e)) t
          ≡ transducer_of t.states t.starts t.finals (cond x (edit_lines (lines_of t) e) (lines_of t))
      go true = refl
      go false = sym (made_again t accepted shaped)

  pub one_accepted : accepted_of (edited_of t r) ≡ true
  one_accepted = rw one_handed (go (ℕ_discrete refusal 0))
    where
      go : Dec (refusal ≡ 0) → accepted_of (cond (eqb refusal 0) (edit_of t e) t) ≡ true
      go (yes z) = rw (eq-eqb refusal 0 z) (edit_accepted t e accepted z)
      go (no n) = rw (ne_eqb refusal 0 n) accepted

-- ---- any number of them

-- from a transducer that is made of these lines
made_row : (n : ℕ) (starts finals : StateSet) (lines : List Transition) {t t' : Transducer} {edits : List Edit} {numbers : List ℕ}
    → t ≡ transducer_of n starts finals lines → InARow t edits numbers t'
    → (numbers ≡ refusals_of n lines edits) × (t' ≡ transducer_of n starts finals (after_edits n lines edits))
unfolding transducer_of
made_row n starts finals lines {edits = edits} e h =
    let k = rw e at h in
    let same = made_lines n starts finals lines in
    (k.refusals ∙ ap (λ x. refusals_of n x edits) same, k.table ∙ ap (λ x. transducer_of n starts finals (after_edits n x edits)) same)

pub in_a_row : {t t' : Transducer} {edits : List Edit} {numbers : List ℕ} → accepted_of t ≡ true → Shaped t → Calls t edits numbers t'
    → InARow t edits numbers t'
unfolding after_edits refusals_of
in_a_row {t} accepted shaped (no_call e) =
    record {
      refusals = refl;
      table = sym (made_again t accepted shaped ∙ e);
      accepted = rw (← e) accepted;
      shaped = rw (← e) shaped;
    }
in_a_row {t} accepted shaped (call {edits = edits} h number rest) =
    let row = in_a_row (one_accepted accepted h) h.shaped rest in
    let made = made_row t.states t.starts t.finals _ (one_table accepted h shaped) row in
    record {
      refusals = λ i. (number ∙ one_number accepted h) i ∷ made.0 i;
      table = made.1;
      accepted = row.accepted;
      shaped = row.shaped;
    }
