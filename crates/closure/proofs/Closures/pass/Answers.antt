use Rattle.closure.proofs.PassLaws.{passed_more}
use Rattle.closure.proofs.Closures.pass.Goals as goal

pub loop-l-preserved : goal.loop-l-preserved
loop-l-preserved c = passed_more c.loop-l.invariant c.follow-changed.ensures
