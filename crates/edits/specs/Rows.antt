-- Calls in a row (document 02, job 6): "Over every list of these two calls .., refused ones included, the table is the one that the same list of edits makes
-- of the .. lines." The lists have any length. `in_a_row` of proofs/RowLaws.antt proves it of every transducer that is accepted.
use Rattle.std.specs.Prelude.{◌≡◌, true, cond, Result, List, [], ◌∷◌, ℕ, eqb}
use Rattle.transducer.specs.Refusals.{number_of}
use Rattle.transducer.specs.Valid.{Shaped}
use Rattle.transducer.specs.Accepted.{accepted_of}
use Rattle.transducer.specs.Lines.{lines_of, transducer_of}
use Rattle.transducer.specs.declared.Transition.{Transition}
use Rattle.transducer.specs.declared.Transducer.{Transducer}
use Rattle.transducer.specs.declared.refusals.Refusal.{Refusal}
use Rattle.edits.specs.Edits.{Edit, line_refusal, edit_lines, edited_of, EditedBy}

-- ---- the calls

-- from t the calls for these edits, each given the transducer that the one before handed over, answer with these numbers, and the last hands over t'
pub data Calls : Transducer → List Edit → List ℕ → Transducer → Type 0 where
  no_call : {t t' : Transducer} → t ≡ t' → Calls t [] [] t'
  call : {t t' : Transducer} {e : Edit} {edits : List Edit} {number : ℕ} {numbers : List ℕ} {r : Result Transducer Refusal} → EditedBy t e r → number ≡ number_of r
      → Calls (edited_of t r) edits numbers t' → Calls t (e ∷ edits) (number ∷ numbers) t'

-- ---- the same edits of a list of lines, among n states

-- the lines after an edit: a refused one leaves them
unfoldable pub after_edit : ℕ → List Transition → Edit → List Transition
after_edit n lines e = cond (eqb (line_refusal n lines e) 0) (edit_lines lines e) lines

-- the lines after all of them
unfoldable pub after_edits : ℕ → List Transition → List Edit → List Transition
after_edits n lines [] = lines
after_edits n lines (e ∷ edits) = after_edits n (after_edit n lines e) edits

-- their refusals
unfoldable pub refusals_of : ℕ → List Transition → List Edit → List ℕ
refusals_of n lines [] = []
refusals_of n lines (e ∷ edits) = line_refusal n lines e ∷ refusals_of n (after_edit n lines e) edits

-- ---- the statement

-- the calls refuse what the edits of the lines of t refuse, and t' has the lines that these make; nothing else of t moved, and t' is accepted
pub record InARow (t : Transducer) (edits : List Edit) (numbers : List ℕ) (t' : Transducer) : Type 0 where
  pub refusals : numbers ≡ refusals_of t.states (lines_of t) edits
  pub table : t' ≡ transducer_of t.states t.starts t.finals (after_edits t.states (lines_of t) edits)
  pub accepted : accepted_of t' ≡ true
  pub shaped : Shaped t'
