-- `put_transition` meets its contract: the codes that are put are those that the transition writes. Assumes nothing.
use Rattle.std.proofs.Common.{arith}
use Rattle.tablewriter.specs.File.{transition_bytes}
use Rattle.tablewriter.proofs.FileLaws.{codes_taken}
use Rattle.tablewriter.proofs.file.put_transition.Goals as goal

pub put_joined-requires-clause-room : goal.put_joined-requires-clause-room
unfolding transition_bytes
put_joined-requires-clause-room c = rw (codes_taken c.args.v (omega arith)) c.requires.room

pub returns : goal.returns
unfolding transition_bytes
returns c = rw (codes_taken c.args.v (omega arith)) at c.put_joined.ensures
