-- `state_record` meets its contract: the record of one field is a record with one range. Assumes nothing.
use Rattle.records.proofs.Record.{one_range}
use Rattle.tablereader.specs.States.{state_record_of}
use Rattle.tablereader.proofs.states.state_record.Goals as goal

pub returns : goal.returns
unfolding state_record_of
returns c =
    let a = c.args in
    simp (c.or-2.ensures, c.or.ensures, c.in_range-state.ensures) (one_range a.text.now a.at a.letter _ _ c.read_one_field-read.ensures)
