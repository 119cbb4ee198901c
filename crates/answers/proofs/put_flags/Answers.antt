-- `put_flags` meets its contract. Assumes nothing.
use Rattle.std.proofs.Common.{arith, refl, false, get_or}
use Rattle.std.proofs.lemmas.List.{length-map}
use Rattle.buffers.proofs.PutsLaws.{puts_one}
use Rattle.buffers.proofs.Parts.{parts_none, part_room, part_next, below_each}
use Rattle.held.specs.Held.{flag_of}
use Rattle.answers.proofs.Flags.{flag_byte}
use Rattle.answers.proofs.put_flags.Goals as goal

pub loop-i-init : goal.loop-i-init
loop-i-init c =
    let flags = c.args.flags.now in
    parts_none (below_each flag_of false flags) (record { room = omega (arith, length-map flags flag_of, c.requires) })

pub loop-i-preserved : goal.loop-i-preserved
loop-i-preserved c =
    let taken = c.loop-i-test.true in
    let room = (part_room c.loop-i.invariant taken).room in
    part_next c.loop-i.invariant taken (rw (flag_byte (get_or c.args.flags.now c.loop-i.i false)) (puts_one _ (omega arith) refl))
