-- `put_transitions` meets its contract: each turn puts the next record. Assumes nothing.
use Rattle.std.proofs.Common.{arith}
use Rattle.std.proofs.lemmas.List.{length-take}
use Rattle.buffers.proofs.Parts.{parts_none, part_room, part_next, parts_all}
use Rattle.tablewriter.proofs.FileLaws.{counted_below, counted_at, transitions_parts}
use Rattle.tablewriter.proofs.file.put_transitions.Goals as goal

pub loop-v-init : goal.loop-v-init
loop-v-init c = parts_none (transitions_parts _ _) c.requires.room

pub put_transition-at-requires-clause-count_le_most_outputs : goal.put_transition-at-requires-clause-count_le_most_outputs
put_transition-at-requires-clause-count_le_most_outputs c =
    let inside = c.loop-v-test.true in
    rw (counted_at c.args.t c.loop-v.v-index inside) (c.requires.valid.used _ (counted_below c.args.t c.loop-v.v-index inside)).few_outputs

pub put_transition-at-requires-clause-room : goal.put_transition-at-requires-clause-room
put_transition-at-requires-clause-room c =
    let inside = c.loop-v-test.true in
    rw (counted_at c.args.t c.loop-v.v-index inside) (part_room c.loop-v.invariant (counted_below c.args.t c.loop-v.v-index inside))

pub loop-v-preserved : goal.loop-v-preserved
loop-v-preserved c =
    let inside = c.loop-v-test.true in
    part_next c.loop-v.invariant (counted_below c.args.t c.loop-v.v-index inside) (rw (counted_at c.args.t c.loop-v.v-index inside) at c.put_transition-at.ensures)

pub returns : goal.returns
returns c = parts_all c.loop-v.invariant (omega (arith, length-take c.args.t.count c.args.t.transitions))
