-- `begin` meets its contract. Assumes nothing.
use Rattle.worklist.proofs.Stages.{rooted_none}
use Rattle.product.proofs.search.Confined.begin.Goals as goal

pub loop-p-init : goal.loop-p-init
loop-p-init c = rooted_none c.requires
