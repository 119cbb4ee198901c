-- An edit by one line (document 02, job 6): what it makes of a list of lines, and what the two calls answer.
use Rattle.std.specs.Prelude.{◌≡◌, cond, Result, Ok, Err, List, [], ◌∷◌, ◌++◌, ℕ, eqb, ltb, length}
use Rattle.transducer.specs.Limits.{most_transitions, most_outputs}
use Rattle.transducer.specs.Refusals.{invalid, many_transitions, no_such_transition, wrong_transition, number_of, first_of}
use Rattle.transducer.specs.Valid.{line_of, Shaped}
use Rattle.transducer.specs.Accepted.{accepted_of}
use Rattle.transducer.specs.Lines.{lines_of, transducer_of, without}
use Rattle.transducer.specs.declared.Transition.{Transition}
use Rattle.transducer.specs.declared.Transducer.{Transducer}
use Rattle.transducer.specs.declared.refusals.Refusal.{Refusal}

-- "a line appended as the last, and a line removed by its number, those after it moving down one"
pub data Edit : Type 0 where
  append : Transition → Edit
  remove : ℕ → Edit

-- an edit as a call is given one: a line with all its places for output codes, as every value of the type has them, or a number
pub data Whole (e : Edit) : Type 0 where
  with_line_lem : (v : Transition) → e ≡ append v → length v.output ≡ most_outputs → Whole e
  with_number : (l : ℕ) → e ≡ remove l → Whole e

-- ---- of a list of lines

-- the refusal of an edit of these lines, among n states, 0 where there is none: 19, the line breaks a range, or holds anything but 0 beyond its count of
-- outputs, before 17, no room for one line more; 18, no line has that number
unfoldable pub line_refusal : ℕ → List Transition → Edit → ℕ
line_refusal n lines (append v) = first_of (cond (line_of n v) 0 wrong_transition ∷ cond (ltb (length lines) most_transitions) 0 many_transitions ∷ [])
line_refusal n lines (remove l) = cond (ltb l (length lines)) 0 no_such_transition

-- the lines that an edit makes
unfoldable pub edit_lines : List Transition → Edit → List Transition
edit_lines lines (append v) = lines ++ (v ∷ [])
edit_lines lines (remove l) = without l lines

-- ---- of a transducer

-- the refusal of the call: before those 8, the transducer is not accepted
unfoldable pub refusal_of : Transducer → Edit → ℕ
refusal_of t e = first_of (cond (accepted_of t) 0 invalid ∷ line_refusal t.states (lines_of t) e ∷ [])

-- the transducer with the edited lines: nothing else of it moves, and the places beyond hold 0
unfoldable pub edit_of : Transducer → Edit → Transducer
edit_of t e = transducer_of t.states t.starts t.finals (edit_lines (lines_of t) e)

-- what a call that is given t hands over: the edited transducer, or with a refusal the one that it was given
abbrev pub edited_of : Transducer → Result Transducer Refusal → Transducer
edited_of t (Ok edited) = edited
edited_of t (Err refusal) = t

-- what the call for an edit answers: its refusal; and the edited transducer, or with a refusal the one that it was given. The arrays of either have their
-- lengths
pub record EditedBy (t : Transducer) (e : Edit) (r : Result Transducer Refusal) : Type 0 where
  pub number : number_of r ≡ refusal_of t e
  pub table : edited_of t r ≡ cond (eqb (refusal_of t e) 0) (edit_of t e) t
  pub shaped : Shaped (edited_of t r)
