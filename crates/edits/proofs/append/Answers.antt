use Rattle.std.proofs.Common.{sym, ◌∙◌, arith}
use Rattle.transducer.proofs.Facts.{line_exactly}
use Rattle.transducer.proofs.LineLaws.{lines_long, appended_shaped}
use Rattle.edits.proofs.CallLaws.{wrong_line, no_room, line_taken, not_accepted, edit_refused, edit_done, append_makes}
use Rattle.edits.proofs.append.Goals as goal

pub returns-then-not-accepted : goal.returns-then-not-accepted
returns-then-not-accepted c =
    let asked = c.accepted.ensures in
    not_accepted _ _ asked.shaped (sym asked.answer ∙ c.if-not-accepted.true)

pub returns-then-not-line_ok : goal.returns-then-not-line_ok
returns-then-not-line_ok c =
    let asked = c.accepted.ensures in
    edit_refused _ _ asked.shaped (sym asked.answer ∙ c.if-not-accepted.false) (λ z. omega arith)
    (wrong_line _ _ _ (sym c.line_ok.ensures.value ∙ c.if-not-line_ok.true))

pub returns-then-t-ge-TRANSITIONS : goal.returns-then-t-ge-TRANSITIONS
returns-then-t-ge-TRANSITIONS c =
    let asked = c.accepted.ensures in
    edit_refused _ _ asked.shaped (sym asked.answer ∙ c.if-not-accepted.false) (λ z. omega arith)
    (no_room _ _ _ (sym c.line_ok.ensures.value ∙ c.if-not-line_ok.false) (omega (arith, lines_long c.args.t)))

pub with_last-requires-clause-used : goal.with_last-requires-clause-used
with_last-requires-clause-used c = (line_exactly _ _).0 (sym c.line_ok.ensures.value ∙ c.if-not-line_ok.false)

pub returns : goal.returns
returns c =
    let t = c.args.t in
    let v = c.args.v in
    let asked = c.accepted.ensures in
    edit_done _ _ (sym asked.answer ∙ c.if-not-accepted.false)
    (line_taken _ _ _ (sym c.line_ok.ensures.value ∙ c.if-not-line_ok.false) (omega (arith, lines_long t)))
    (c.with_last.ensures ∙ sym (append_makes t v))
    (rw (append_makes t v) (appended_shaped t v asked.shaped (omega arith) c.line_ok.ensures.output_len))
