-- `clear` meets its contract. Assumes nothing.
use Rattle.std.proofs.Common.{rules}
use Rattle.product.proofs.StoreLaws.{cleared}
use Rattle.product.proofs.machine.clear.Goals as goal

pub returns : goal.returns
returns c = cleared c.args.places.now c.fill.new.self c.args.n (search rules) (search rules)
