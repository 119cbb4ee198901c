use Rattle.std.proofs.Common.{sym, ◌∙◌, arith}
use Rattle.transducer.proofs.AcceptedLaws.{accepted_valid}
use Rattle.transducer.proofs.LineLaws.{lines_long}
use Rattle.transducer.proofs.RemovalLaws.{removed_shaped}
use Rattle.edits.proofs.CallLaws.{no_such_line, line_there, not_accepted, edit_refused, edit_done, remove_makes}
use Rattle.edits.proofs.remove.Goals as goal

pub returns-then-not-accepted : goal.returns-then-not-accepted
returns-then-not-accepted c =
    let asked = c.accepted.ensures in
    not_accepted _ _ asked.shaped (sym asked.answer ∙ c.if-not-accepted.true)

pub returns-then-t-l : goal.returns-then-t-l
returns-then-t-l c =
    let asked = c.accepted.ensures in
    edit_refused _ _ asked.shaped (sym asked.answer ∙ c.if-not-accepted.false) (λ z. omega arith)
    (no_such_line _ _ _ (omega (arith, lines_long c.args.t)))

pub returns : goal.returns
returns c =
    let t = c.args.t in
    let l = c.args.l in
    let asked = c.accepted.ensures in
    let accepted = sym asked.answer ∙ c.if-not-accepted.false in
    edit_done _ _ accepted (line_there _ _ _ (omega (arith, lines_long t))) (c.close_up.ensures ∙ sym (remove_makes t l))
    (rw (remove_makes t l) (removed_shaped t l (accepted_valid t accepted) asked.shaped (omega arith)))
