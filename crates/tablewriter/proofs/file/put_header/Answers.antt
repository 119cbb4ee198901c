-- `put_header` meets its contract: the counts of states are the numbers of the first record. Assumes nothing.
use Rattle.tablewriter.specs.File.{header_bytes}
use Rattle.tablewriter.proofs.file.put_header.Goals as goal

pub put_record-requires-clause-room : goal.put_record-requires-clause-room
unfolding header_bytes
put_record-requires-clause-room c = rw (c.count_states-starts.ensures, c.count_states-finals.ensures) c.requires

pub returns : goal.returns
unfolding header_bytes
returns c = rw (c.count_states-starts.ensures, c.count_states-finals.ensures) at c.put_record.ensures
