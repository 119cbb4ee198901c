-- `of` meets its contract. Assumes nothing.
use Rattle.outputs.proofs.OutputLaws.{filling_none, filled}
use Rattle.outputs.proofs.Outputs.of.Goals as goal

pub invariant_of-result : goal.invariant_of-result
invariant_of-result c = (filled c.requires c.loop-l.invariant c.loop-l-test.false).entries

pub returns : goal.returns
returns c = filled c.requires c.loop-l.invariant c.loop-l-test.false

pub loop-l-init : goal.loop-l-init
loop-l-init c = filling_none
