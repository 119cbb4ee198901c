-- The edited table has its shape, and is held.
use Rattle.std.proofs.Common.{refl}
use Rattle.held.specs.Held.{table_in_of}
use Rattle.edits.specs.Edits.{edited_of}
use Rattle.unit.proofs.Returns.{begun, made_shaped, held_as}
use Rattle.unit.proofs.yotselina_append.Goals as goal

pub give_table-requires-clause-shaped : goal.give_table-requires-clause-shaped
give_table-requires-clause-shaped c = made_shaped c.append-edited.result c.on_file.ensures (λ t e. rw e at c.append-edited.ensures.shaped)

pub returns : goal.returns
returns c =
    let edited = c.append-edited.result in
    let held = held_as edited (edited_of (table_in_of c.args.table.now)) c.on_file.ensures (λ t. refl) c.give_table.ensures in
    record {
      call =
          begun (c.if-table-lt-SIZE.false, c.if-line-lt-MOST_FIELDS.false)
          (record { edited = edited; by = rw (c.table_in-t.ensures, c.line_in.ensures) at c.append-edited.ensures; held = held });
    }
