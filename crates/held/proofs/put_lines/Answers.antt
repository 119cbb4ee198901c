-- `put_lines` meets its contract. Assumes nothing.
use Rattle.std.proofs.Common.{arith}
use Rattle.buffers.proofs.Parts.{parts_none, part_room, part_next, below_items}
use Rattle.transducer.specs.Transition.{outside}
use Rattle.held.specs.Held.{line_bytes, lines_bytes}
use Rattle.held.proofs.put_lines.Goals as goal

pub loop-v-init : goal.loop-v-init
unfolding lines_bytes
loop-v-init c = parts_none (below_items line_bytes outside c.args.t.transitions) c.requires.room

pub put_line-at-requires : goal.put_line-at-requires
put_line-at-requires c = part_room c.loop-v.invariant (omega (arith, c.requires.shaped.transitions))

pub loop-v-preserved : goal.loop-v-preserved
loop-v-preserved c = part_next c.loop-v.invariant (omega (arith, c.requires.shaped.transitions)) c.put_line-at.ensures
