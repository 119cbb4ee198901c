-- `output` meets its contract. Assumes nothing.
use Rattle.std.proofs.Common.{arith}
use Rattle.buffers.proofs.Parts.{parts_none, part_room, part_next}
use Rattle.transducer.specs.Paths.{writes}
use Rattle.transducer.proofs.SizeLaws.{length_bytes}
use Rattle.pathwords.proofs.WritingLaws.{output_parts}
use Rattle.pathwords.proofs.output.Goals as goal

pub loop-l-init : goal.loop-l-init
loop-l-init c =
    parts_none (output_parts c.args.t c.args.path.now) (record { room = omega (arith, length_bytes (writes c.args.t c.args.path.now)) })

pub put_output-at-requires-clause-room : goal.put_output-at-requires-clause-room
put_output-at-requires-clause-room c = part_room c.loop-l.invariant c.loop-l-test.true

pub loop-l-preserved : goal.loop-l-preserved
loop-l-preserved c = part_next c.loop-l.invariant c.loop-l-test.true c.put_output-at.ensures
