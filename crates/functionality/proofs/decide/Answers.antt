-- `decide` meets its contract. Assumes nothing.
use Rattle.std.proofs.Common.{sym, ◌∙◌}
use Rattle.functionality.proofs.VerdictLaws.{refusal_invalid, refusal_short, refuses}
use Rattle.functionality.proofs.decide.Goals as goal

pub returns-then-not-accepted-clause-decided : goal.returns-then-not-accepted-clause-decided
returns-then-not-accepted-clause-decided c = refuses _ _ _ (refusal_invalid _ _ (sym c.accepted.ensures.answer ∙ c.if-not-accepted.true))

pub returns-then-not-full-clause-decided : goal.returns-then-not-full-clause-decided
returns-then-not-full-clause-decided c =
    refuses _ _ _ (refusal_short _ _ (sym c.accepted.ensures.answer ∙ c.if-not-accepted.false) (sym c.full.ensures ∙ c.if-not-full.true))
