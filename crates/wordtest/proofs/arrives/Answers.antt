use Rattle.transducer.proofs.CodeLaws.{codes_exactly}
use Rattle.wordtest.proofs.RowLaws.{begun_first, begun_next}
use Rattle.wordtest.proofs.arrives.Goals as goal

pub loop-code-init : goal.loop-code-init
loop-code-init c = begun_first c.start-here.ensures

pub sweep-requires-clause-le_code : goal.sweep-requires-clause-le_code
sweep-requires-clause-le_code c = rw c.from.ensures ((codes_exactly _).0 c.requires c.loop-code.code-index c.loop-code-test.true).0

pub loop-code-preserved : goal.loop-code-preserved
loop-code-preserved c = begun_next c.loop-code-test.true c.loop-code.invariant (rw c.from.ensures at c.sweep.ensures)
