-- Calls in a row there are, for every list of edits, refused ones included. And a line that is appended and removed again leaves the lines as they were.
-- Assumes nothing.
use mathlib.Core.Path.{◌≡◌, refl, sym, ap, ◌∙◌}
use mathlib.Core.Bool.{Bool, true, false, cond}
use mathlib.Core.Logic.{◌≢◌}
use mathlib.Core.List.{List, [], ◌∷◌, ◌++◌, Memᴰ}
use Prim.Native.Nat.{ℕ}
use Rattle.std.specs.Prelude.{Result, Ok, Err}
use native.Mathlib.Decide.{ℕ_discrete}
use native.Mathlib.Omega.{arith}
use borrow.Author.Tests.{eq-eqb}
use lib.Dec.{ltb}
use lib.ListN.{length, length-append}
use Rattle.transducer.specs.Limits.{most_transitions}
use Rattle.transducer.specs.Refusals.{many_transitions, no_such_transition, wrong_transition, refusal_number, number_of, first_of}
use Rattle.transducer.specs.Valid.{line_of, Shaped}
use Rattle.transducer.specs.Accepted.{accepted_of}
use Rattle.transducer.specs.Lines.{lines_of, transducer_of, without}
use Rattle.transducer.specs.declared.Transition.{Transition}
use Rattle.transducer.specs.declared.Transducer.{Transducer}
use Rattle.transducer.specs.declared.refusals.Refusal.{Refusal}
use Rattle.transducer.specs.declared.refusals.Refusal.TheVariants.{ManyTransitions, NoSuchTransition, WrongTransition}
use Rattle.transducer.proofs.AcceptedLaws.{accepted_valid}
use Rattle.edits.specs.Edits.{Edit, append, remove, Whole, line_refusal, edit_lines, edit_of, edited_of, EditedBy}
use Rattle.edits.specs.Rows.{Calls, no_call, call, after_edit, after_edits, refusals_of}
use Rattle.edits.proofs.CallLaws.{line_there, edit_refused, edit_done}
use Rattle.edits.proofs.RowLaws.{edit_shaped, one_accepted, in_a_row}

-- ---- one call

-- a refusal with this number
record Named (number : ℕ) : Type 0 where
  refusal : Refusal
  named : refusal_number refusal ≡ number

line_named : (kept room : Bool) → first_of (cond kept 0 wrong_transition ∷ cond room 0 many_transitions ∷ []) ≢ 0
    → Named (first_of (cond kept 0 wrong_transition ∷ cond room 0 many_transitions ∷ []))
unfolding first_of
line_named false room n = record { refusal = WrongTransition; named = refl }
line_named true false n = record { refusal = ManyTransitions; named = refl }
line_named true true n = absurd (n refl)

number_named : (there : Bool) → cond there 0 no_such_transition ≢ 0 → Named (cond there 0 no_such_transition)
number_named false n = record { refusal = NoSuchTransition; named = refl }
number_named true n = absurd (n refl)

-- each refusal of an edit is one
refusal_named : (n : ℕ) (lines : List Transition) (e : Edit) → line_refusal n lines e ≢ 0 → Named (line_refusal n lines e)
unfolding line_refusal
refusal_named n lines (append v) some = line_named (line_of n v) (ltb (length lines) most_transitions) some
refusal_named n lines (remove l) some = number_named (ltb l (length lines)) some

-- what a call for e may answer
pub record Answered (t : Transducer) (e : Edit) : Type 0 where
  pub answer : Result Transducer Refusal
  pub answers : EditedBy t e answer

pub call_there : (t : Transducer) (e : Edit) → accepted_of t ≡ true → Shaped t → Whole e → Answered t e
call_there t e accepted shaped whole = go (ℕ_discrete refusal 0)
  where
    refusal : ℕ
    refusal = line_refusal t.states (lines_of t) e

    go : Dec (refusal ≡ 0) → Answered t e
    go (yes z) =
        let lengths = edit_shaped t e (accepted_valid t accepted) shaped whole z in
        record { answer = Ok (edit_of t e); answers = edit_done t e accepted (sym z) refl lengths }
    go (no n) =
        let o = refusal_named t.states (lines_of t) e n in
        record { answer = Err o.refusal; answers = edit_refused t e shaped accepted (λ z. n (sym o.named ∙ z)) o.named }

-- ---- any number of them

record Row (t : Transducer) (edits : List Edit) : Type 0 where
  numbers : List ℕ
  last : Transducer
  calls : Calls t edits numbers last

row_there : (t : Transducer) (edits : List Edit) → accepted_of t ≡ true → Shaped t → ((e : Edit) → Memᴰ e edits → Whole e) → Row t edits
row_there t [] accepted shaped whole = record { numbers = []; last = t; calls = no_call refl }
row_there t (e ∷ edits) accepted shaped whole =
    let one = call_there t e accepted shaped (whole e (Memᴰ.head refl)) in
    let more =
    row_there (edited_of t one.answer) edits (one_accepted accepted one.answers) one.answers.shaped (λ e' m. whole e' (Memᴰ.tail m))
    in
    record { numbers = number_of one.answer ∷ more.numbers; last = more.last; calls = call one.answers refl more.calls }

-- whatever the edits, refused ones included, there are calls for them, with the refusals and the lines that the edits of the lines have
pub calls_there : (t : Transducer) (edits : List Edit) → accepted_of t ≡ true → Shaped t → ((e : Edit) → Memᴰ e edits → Whole e)
    → Calls t edits (refusals_of t.states (lines_of t) edits)
    (transducer_of t.states t.starts t.finals (after_edits t.states (lines_of t) edits))
calls_there t edits accepted shaped whole =
    let there = row_there t edits accepted shaped whole in
    let row = in_a_row accepted shaped there.calls in
    rw (row.refusals, row.table) at there.calls

-- ---- an edit that is undone

-- without the last of them the lines are those before it
without_last : (lines : List Transition) (v : Transition) → without (length lines) (lines ++ (v ∷ [])) ≡ lines
unfolding without
without_last [] v = refl
without_last (w ∷ lines) v = ap (λ l. w ∷ l) (without_last lines v)

pub undone : (n : ℕ) (lines : List Transition) (v : Transition) → line_refusal n lines (append v) ≡ 0
    → after_edits n lines (append v ∷ remove (length lines) ∷ []) ≡ lines
unfolding after_edits after_edit edit_lines
undone n lines v z =
    let more = lines ++ (v ∷ []) in
    let there : 0 ≡ line_refusal n more (remove (length lines)) = line_there n more (length lines) (omega (arith, length-append lines (v ∷ []))) in
    rw (eq-eqb (line_refusal n lines (append v)) 0 z, eq-eqb (line_refusal n more (remove (length lines))) 0 (sym there)) (without_last lines v)
