-- The part is what the columns before make. Assumes nothing.
use Rattle.std.proofs.Common.{◌≡◌, take}
use Rattle.records.specs.Field.{part_of}
use Rattle.records.specs.declared.field.Part.TheVariants.{Blank}
use Rattle.records.proofs.field.field_at.Given as goal

abbrev pub invariant-loop-b : goal.invariant-loop-b
invariant-loop-b l = l.part ≡ part_of Blank (take l.b-index l.columns)
