use Rattle.std.proofs.Common.{arith}
use Rattle.closure.proofs.FlagLaws.{joins_more}
use Rattle.closure.proofs.Closures.join.Goals as goal

pub loop-p-preserved : goal.loop-p-preserved
loop-p-preserved c = joins_more c.requires.q_lt_most_states c.requires.s_lt_most_states (omega arith) c.loop-p.invariant c.take-changed.ensures
