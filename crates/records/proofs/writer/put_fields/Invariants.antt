-- The fields of the numbers below the place are put. Assumes nothing.
use Rattle.std.proofs.Common.{length, get_or}
use Rattle.buffers.proofs.Parts.{Parts}
use Rattle.records.specs.Number.{columns_of}
use Rattle.records.specs.Record.{fields_of}
use Rattle.records.proofs.writer.put_fields.Given as goal

abbrev pub invariant-loop-x : goal.invariant-loop-x
invariant-loop-x g l =
    let numbers = g.T.Numeral.numbers l.numbers in
    Parts (fields_of l.width numbers) (λ i. columns_of l.width (get_or numbers i 0)) (length numbers) l.initial.out l.start l.x-index l.out l.at
