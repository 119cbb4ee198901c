-- `put_set` meets its contract. Assumes nothing.
use Rattle.std.proofs.Common.{arith, rules, add-zero, ◌≡◌, false, length, get_or}
use Rattle.buffers.proofs.PutsLaws.{puts_one}
use Rattle.buffers.proofs.Parts.{parts_none, part_room, part_next, below_each}
use Rattle.transducer.specs.Limits.{most_states}
use Rattle.held.specs.Held.{flag_of, flag_bytes}
use Rattle.held.proofs.FillLaws.{flag_byte}
use Rattle.held.proofs.put_set.Goals as goal

pub loop-q-init : goal.loop-q-init
unfolding flag_bytes
loop-q-init c = rw add-zero (parts_none (below_each flag_of false c.args.set.member) c.requires)

pub bounds-out-at : goal.bounds-out-at
bounds-out-at c =
    let size : length c.args.set.member ≡ most_states = search rules in
    omega (arith, (part_room c.loop-q.invariant (omega arith)).room)

pub loop-q-preserved : goal.loop-q-preserved
loop-q-preserved c =
    let l = c.loop-q in
    let size : length c.args.set.member ≡ most_states = search rules in
    part_next l.invariant (omega arith)
    (rw (flag_byte (get_or c.args.set.member l.q false)) (puts_one _ (omega (arith, (part_room l.invariant (omega arith)).room)) (omega arith)))
