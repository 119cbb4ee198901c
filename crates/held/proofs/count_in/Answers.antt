-- `count_in` meets its contract: two bytes, the lower first. Assumes nothing.
use Rattle.std.proofs.Common.{arith}
use Rattle.held.specs.Held.{count_in_of}
use Rattle.held.proofs.count_in.Goals as goal

pub returns : goal.returns
unfolding count_in_of
returns c = omega (arith, c.from_le_bytes.ensures)
