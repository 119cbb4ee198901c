-- `copy` meets its contract: one code after the other. Assumes nothing.
use Rattle.std.proofs.Common.{arith}
use Rattle.delays.proofs.BufferLaws.{copied_none, copied_more, copied_all}
use Rattle.delays.proofs.equation.copy.Goals as goal

pub loop-k-init : goal.loop-k-init
loop-k-init c = copied_none _ _ _

pub loop-k-preserved : goal.loop-k-preserved
loop-k-preserved c = copied_more c.loop-k.invariant (omega arith) (omega arith)

pub returns : goal.returns
returns c = copied_all c.loop-k.invariant (omega arith) (omega arith)
