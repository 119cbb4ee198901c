-- `before` meets its contract: the library's order on slices is the dictionary order. Assumes nothing.
use Rattle.pathwords.proofs.OrderLaws.{before_by_order}
use Rattle.pathwords.proofs.before.Goals as goal

pub returns : goal.returns
returns c = rw c.lt.ensures (before_by_order _ _)
