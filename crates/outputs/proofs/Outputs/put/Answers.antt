-- `put` meets its contract: of the places copied the first are the codes. Assumes nothing.
use Rattle.std.proofs.Common.{arith}
use Rattle.outputs.proofs.PutLaws.{appends_codes}
use Rattle.outputs.proofs.Outputs.put.Goals as goal

pub returns : goal.returns
returns c =
    rw (← c.self.view_is)
    (appends_codes c.self.invariant c.args.l c.requires.l_le_no_transition _ (omega arith) c.copy_from_slice.ensures.after)
