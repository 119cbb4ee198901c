-- `put_record` meets its contract: the letter, the fields and the end are put one after the other. Assumes nothing.
use Rattle.records.proofs.RecordPuts.{record_letter_room, record_fields_room, record_end_room, record_put}
use Rattle.records.proofs.writer.put_record.Goals as goal

pub put_byte-fields-requires : goal.put_byte-fields-requires
put_byte-fields-requires g c = record_letter_room _ _ _ c.requires.room

pub put_fields-end-requires-clause-room : goal.put_fields-end-requires-clause-room
put_fields-end-requires-clause-room g c = record_fields_room _ _ _ c.requires.room c.put_byte-fields.ensures

pub put_byte-requires : goal.put_byte-requires
put_byte-requires g c = record_end_room _ _ _ c.requires.room c.put_byte-fields.ensures c.put_fields-end.ensures

pub returns : goal.returns
returns g c = record_put _ _ _ c.requires.room c.put_byte-fields.ensures c.put_fields-end.ensures c.put_byte.ensures
