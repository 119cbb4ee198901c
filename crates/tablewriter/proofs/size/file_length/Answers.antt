-- `file_length` meets its contract, by the law of the file's length. Assumes nothing.
use Rattle.std.proofs.Common.{arith}
use Rattle.tablewriter.proofs.LengthLaws.{size_most, few_outputs, written_length}
use Rattle.tablewriter.proofs.size.file_length.Goals as goal

pub overflow_add-states : goal.overflow_add-states
overflow_add-states c = omega (arith, size_most c.args.t.starts, size_most c.args.t.finals)

pub overflow_mul-result-3 : goal.overflow_mul-result-3
overflow_mul-result-3 c = omega (arith, few_outputs c.args.t c.requires c.args.t.count (omega arith), c.requires.few_transitions)

pub overflow_add-result-2 : goal.overflow_add-result-2
overflow_add-result-2 c =
    omega (
      arith,
      size_most c.args.t.starts,
      size_most c.args.t.finals,
      few_outputs c.args.t c.requires c.args.t.count (omega arith),
      c.requires.few_transitions,
    )

pub returns : goal.returns
returns c = omega (arith, written_length c.args.t)
