-- `search` meets its contract. Assumes nothing.
use Rattle.worklist.proofs.Stages.{working_none}
use Rattle.product.proofs.ConfinedLaws.{begins_low}
use Rattle.product.proofs.search.Confined.search.Goals as goal

pub close-requires : goal.close-requires
close-requires c = working_none c.begin.ensures (λ v b. begins_low b)
