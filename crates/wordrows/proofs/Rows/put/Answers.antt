-- `put` meets its contract. Assumes nothing.
use Rattle.std.proofs.Common.{arith}
use Rattle.outputs.proofs.OutputLaws.{length_codes}
use Rattle.wordrows.proofs.Rows.put.Goals as goal

pub mark-requires-clause-j_le_most_output : goal.mark-requires-clause-j_le_most_output
mark-requires-clause-j_le_most_output c =
    let r = c.self.inside in
    omega (
      arith,
      ((rw c.from.ensures at c.stands.ensures).0 c.if-stands.true).within,
      length_codes r.written.now c.args.l,
      c.self.invariant.short,
      rw c.from-then-stands.ensures at c.count-count.ensures,
    )
