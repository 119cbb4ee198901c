-- `field_at` meets its contract: what fewer than four columns make is below 1000. Assumes nothing.
use Rattle.records.proofs.Columns.{part_few}
use Rattle.records.proofs.field.field_at.Goals as goal

pub add_column-part-requires : goal.add_column-part-requires
add_column-part-requires c = rw c.loop-b.invariant (part_few _ c.loop-b.b-index c.loop-b-test.true)
