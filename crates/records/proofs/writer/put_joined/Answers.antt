-- `put_joined` meets its contract: the letter, the fields of the two lists and the end are put one after the other. Assumes nothing.
use Rattle.records.proofs.RecordPuts.{joined_letter_room, joined_front_room, joined_back_room, joined_end_room, joined_put}
use Rattle.records.proofs.writer.put_joined.Goals as goal

pub put_byte-first-requires : goal.put_byte-first-requires
put_byte-first-requires g c = joined_letter_room _ _ (g.A.Numeral.numbers c.args.front.now) (g.B.Numeral.numbers c.args.back.now) c.requires.room

pub put_fields-behind-requires-clause-room : goal.put_fields-behind-requires-clause-room
put_fields-behind-requires-clause-room g c = joined_front_room _ _ (g.A.Numeral.numbers c.args.front.now) (g.B.Numeral.numbers c.args.back.now) c.requires.room c.put_byte-first.ensures

pub put_fields-end-requires-clause-room : goal.put_fields-end-requires-clause-room
put_fields-end-requires-clause-room g c = joined_back_room _ _ (g.A.Numeral.numbers c.args.front.now) (g.B.Numeral.numbers c.args.back.now) c.requires.room c.put_byte-first.ensures c.put_fields-behind.ensures

pub put_byte-requires : goal.put_byte-requires
put_byte-requires g c = joined_end_room _ _ (g.A.Numeral.numbers c.args.front.now) (g.B.Numeral.numbers c.args.back.now) c.requires.room c.put_byte-first.ensures c.put_fields-behind.ensures c.put_fields-end.ensures

pub returns : goal.returns
returns g c = joined_put _ _ (g.A.Numeral.numbers c.args.front.now) (g.B.Numeral.numbers c.args.back.now) c.requires.room c.put_byte-first.ensures c.put_fields-behind.ensures c.put_fields-end.ensures c.put_byte.ensures
