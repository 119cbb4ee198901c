-- `put_file` meets its contract: the first record, the start states, the final states and the transitions are put one after the other.
-- Assumes nothing.
use Rattle.tablewriter.proofs.FilePuts.{header_room, starts_room, finals_room, transitions_room, file_put}
use Rattle.tablewriter.proofs.file.put_file.Goals as goal

pub put_header-header-requires : goal.put_header-header-requires
put_header-header-requires c = header_room c.args.t c.requires.room

pub put_states-starts-requires : goal.put_states-starts-requires
put_states-starts-requires c = starts_room c.args.t c.requires.room c.put_header-header.ensures

pub put_states-finals-requires : goal.put_states-finals-requires
put_states-finals-requires c = finals_room c.args.t c.requires.room c.put_header-header.ensures c.put_states-starts.ensures

pub put_transitions-requires-clause-room : goal.put_transitions-requires-clause-room
put_transitions-requires-clause-room c =
    transitions_room c.args.t c.requires.room c.put_header-header.ensures c.put_states-starts.ensures c.put_states-finals.ensures

pub returns : goal.returns
returns c =
    file_put c.args.t c.requires.room c.put_header-header.ensures c.put_states-starts.ensures c.put_states-finals.ensures c.put_transitions.ensures
