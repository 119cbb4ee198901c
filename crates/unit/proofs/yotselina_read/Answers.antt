-- What the reader returns has its shape.
use Rattle.tablereader.proofs.ReadLaws.{read_shaped}
use Rattle.unit.proofs.yotselina_read.Goals as goal

pub give_table-requires-clause-shaped : goal.give_table-requires-clause-shaped
give_table-requires-clause-shaped c = rw c.read.ensures (read_shaped c.args.file.now)
