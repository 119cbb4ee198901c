-- `put_byte` meets its contract: a store puts one byte. Assumes nothing.
use Rattle.std.proofs.Common.{refl, arith}
use Rattle.buffers.proofs.PutsLaws.{puts_one}
use Rattle.buffers.proofs.put_byte.Goals as goal

pub returns : goal.returns
returns c = puts_one c.args.b (omega arith) refl
