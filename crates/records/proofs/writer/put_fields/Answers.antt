-- `put_fields` meets its contract: each turn puts the next field. Assumes nothing.
use Rattle.std.proofs.Common.{sym, ◌∙◌, arith}
use Rattle.buffers.proofs.Parts.{parts_none, part_room, part_next}
use Rattle.records.proofs.RecordBytes.{fields_parts, numbers_length, number_there}
use Rattle.records.proofs.writer.put_fields.Goals as goal

pub loop-x-init : goal.loop-x-init
loop-x-init g c = parts_none (fields_parts _ _) c.requires.room

pub put_field-at-requires-clause-room : goal.put_field-at-requires-clause-room
put_field-at-requires-clause-room g c =
    let items = c.args.numbers.now in
    let each = g.met.T.Numeral.each items in
    let there = number_there g.T.Numeral.number items _ each c.loop-x.x-index c.x-item.result c.loop-x-test.true c.x-item.is in
    rw (there ∙ sym c.number.ensures) at (part_room c.loop-x.invariant (omega (arith, numbers_length g.T.Numeral.number items _ each)))

pub loop-x-preserved : goal.loop-x-preserved
loop-x-preserved g c =
    let items = c.args.numbers.now in
    let each = g.met.T.Numeral.each items in
    let there = number_there g.T.Numeral.number items _ each c.loop-x.x-index c.x-item.result c.loop-x-test.true c.x-item.is in
    part_next c.loop-x.invariant (omega (arith, numbers_length g.T.Numeral.number items _ each)) (rw (c.number.ensures ∙ sym there) at c.put_field-at.ensures)
