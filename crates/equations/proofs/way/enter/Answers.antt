-- `enter` meets its contract: the way in is written, its last step first. Assumes nothing.
use Rattle.std.proofs.Common.{[], arith}
use Rattle.delays.proofs.WayOutLaws.{onward_to}
use Rattle.equations.proofs.Writing.{entering_room, entering_more, entering_done}
use Rattle.equations.proofs.way.enter.Goals as goal

pub loop-next-preserved : goal.loop-next-preserved
loop-next-preserved c =
    let i = c.loop-next.invariant in
    rw c.label.ensures (entering_more _ _ i c.requires.steps_len (onward_to c.args.links.now.links [] i.walking.led c.in-Some.ensures))

pub returns : goal.returns
returns c = entering_done _ _ c.loop-next.invariant c.in_default.ensures

pub overflow_sub-at : goal.overflow_sub-at
overflow_sub-at c =
    let i = c.loop-next.invariant in
    omega (arith, entering_room _ _ i (onward_to c.args.links.now.links [] i.walking.led c.in-Some.ensures))
