-- `input` meets its contract. Assumes nothing.
use Rattle.std.proofs.Common.{arith}
use Rattle.buffers.proofs.Parts.{parts_none, part_room, part_next, parts_all}
use Rattle.transducer.specs.Paths.{reads}
use Rattle.pathwords.proofs.WordLaws.{length_codes}
use Rattle.pathwords.proofs.WritingLaws.{input_parts}
use Rattle.pathwords.proofs.input.Goals as goal

pub loop-l-init : goal.loop-l-init
loop-l-init c =
    parts_none (input_parts c.args.t c.args.path.now) (record { room = omega (arith, length_codes (reads c.args.t c.args.path.now)) })

pub put_input-at-requires : goal.put_input-at-requires
put_input-at-requires c = part_room c.loop-l.invariant c.loop-l-test.true

pub loop-l-preserved : goal.loop-l-preserved
loop-l-preserved c = part_next c.loop-l.invariant c.loop-l-test.true c.put_input-at.ensures

pub returns-clause-value : goal.returns-clause-value
returns-clause-value c =
    omega (arith, length_codes (reads c.args.t c.args.path.now), (parts_all c.loop-l.invariant c.loop-l-test.false).place)
