-- `whole` meets its contract: the way out is followed, and written, to its end. Assumes nothing.
use Rattle.std.proofs.Common.{arith}
use Rattle.witness.specs.Sides.{is_right}
use Rattle.delays.proofs.WayOutLaws.{onward_to, word_short, led_or_counts}
use Rattle.delays.proofs.PendingLaws.{pending_room, pending_more, pending_whole}
use Rattle.delays.proofs.ways.Ways.whole.Goals as goal

pub put-to-requires-clause-most_outputs_in_bounds :
    goal.put-to-requires-clause-most_outputs_in_bounds
put-to-requires-clause-most_outputs_in_bounds c =
    let g = c.self.invariant in
    let led = led_or_counts g (rw (← c.self.view_is) at c.requires.led) in
    omega (arith, pending_room c.loop-next.invariant (omega arith) g.lists led)

pub loop-next-smaller : goal.loop-next-smaller
loop-next-smaller c =
    let g = c.self.invariant in
    omega (arith, (onward_to g.lists.links c.self.inside.written.now c.loop-next.invariant.here c.in-Some.ensures).fewer)

pub loop-next-preserved : goal.loop-next-preserved
loop-next-preserved c =
    let g = c.self.invariant in
    let led = led_or_counts g (rw (← c.self.view_is) at c.requires.led) in
    let i = c.loop-next.invariant in
    let ahead = onward_to g.lists.links c.self.inside.written.now i.here c.in-Some.ensures in
    let room = pending_room i (omega arith) g.lists led in
    pending_more i (omega arith) g.lists ahead (omega (arith, room)) c.put-to.auto.word (rw (c.taken.ensures, c.label.ensures) at c.put-to.ensures)

pub returns : goal.returns
returns c =
    let g = c.self.invariant in
    let led = led_or_counts g (rw (← c.self.view_is) at c.requires.led) in
    let w = pending_whole c.loop-next.invariant (omega arith) c.in_default.ensures in
    rw (← c.self.view_is) (record { word = w; short = omega (arith, w.place, word_short g.lists (is_right c.args.side) led) })
