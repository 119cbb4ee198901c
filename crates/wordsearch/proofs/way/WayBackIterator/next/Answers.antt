-- `next` meets its contract: it gives the first label of what is left. Assumes nothing.
use Rattle.std.proofs.Common.{ℕ, ap, length, sym, ◌∙◌, ◌≢◌, get_or, arith}
use Rattle.wordsearch.proofs.WayLaws.{back_end, back_step}
use Rattle.wordsearch.proofs.way.WayBackIterator.next.Goals as goal

pub returns-then-link-eq0-clause-steps : goal.returns-then-link-eq0-clause-steps
returns-then-link-eq0-clause-steps g c =
    let e = sym c.self.view_is ∙ back_end c.self.invariant (sym c.parent-link.ensures ∙ c.if-link-eq0.true) in
    (e, e)

pub returns-clause-steps : goal.returns-clause-steps
returns-clause-steps g c =
    let n : get_or c.self.inside.found.now.parent c.self.inside.at 0 ≢ 0 = λ z. c.if-link-eq0.false (c.parent-link.ensures ∙ z) in
    sym c.self.view_is ∙ rw (c.parent-link.ensures, c.via-label.ensures) (back_step c.self.invariant n)

pub returns-clause-goes : goal.returns-clause-goes
returns-clause-goes g c =
    let n : get_or c.self.inside.found.now.parent c.self.inside.at 0 ≢ 0 = λ z. c.if-link-eq0.false (c.parent-link.ensures ∙ z) in
    let e = ap (length {A = ℕ}) (sym c.self.view_is ∙ back_step c.self.invariant n) in
    rw c.parent-link.ensures (record { on = λ f. (tt, tt, omega (arith, e)); keeps = tt; rests = λ f. tt })
