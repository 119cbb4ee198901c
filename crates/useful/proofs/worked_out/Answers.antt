-- `worked_out` meets its contract: a state is useful exactly when it is reached both ways. Assumes nothing.
use Rattle.transducer.proofs.AcceptedLaws.{set_worked_out}
use Rattle.useful.proofs.Accessible.{useful_members}
use Rattle.useful.proofs.worked_out.Goals as goal

pub returns : goal.returns
returns c =
    set_worked_out _ c.requires c.common.ensures.long
    (useful_members c.steps.ensures.ahead c.steps.ensures.back
    c.number.ensures c.number-2.ensures
    c.reached-into.ensures c.reached-out.ensures c.common.ensures)
