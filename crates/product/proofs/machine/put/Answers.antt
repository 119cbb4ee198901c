-- `put` meets its contract: five stores. Assumes nothing.
use Rattle.std.proofs.Common.{rules}
use Rattle.product.proofs.StoreLaws.{put_stores}
use Rattle.product.proofs.machine.put.Goals as goal

pub returns : goal.returns
returns c = put_stores _ _ _ _ _ (search rules) c.requires.l_lt_most_transitions c.requires.from_lt_most_states
