-- `put_counted` meets its contract: the count and the numbers are joined. Assumes nothing.
use Rattle.records.specs.Record.{counted_bytes}
use Rattle.records.proofs.RecordBytes.{numbers_length}
use Rattle.records.proofs.writer.put_counted.Goals as goal

pub put_joined-requires-clause-room : goal.put_joined-requires-clause-room
unfolding counted_bytes
put_joined-requires-clause-room g c = rw (numbers_length g.T.Numeral.number c.args.numbers.now _ (g.met.T.Numeral.each c.args.numbers.now)) at c.requires.room

pub returns : goal.returns
unfolding counted_bytes
returns g c = rw (numbers_length g.T.Numeral.number c.args.numbers.now _ (g.met.T.Numeral.each c.args.numbers.now)) c.put_joined.ensures
