-- `leave` meets its contract: the way out is written, its first step first. Assumes nothing.
use Rattle.std.proofs.Common.{[]}
use Rattle.delays.proofs.WayOutLaws.{onward_to}
use Rattle.equations.proofs.Writing.{leaving_more, leaving_done}
use Rattle.equations.proofs.way.leave.Goals as goal

pub loop-next-preserved : goal.loop-next-preserved
loop-next-preserved c =
    let i = c.loop-next.invariant in
    rw c.label.ensures (leaving_more _ _ i c.requires.steps_len.1 c.requires.steps_len.0 (onward_to c.args.links.now.links [] i.walking.led c.in-Some.ensures))

pub returns : goal.returns
returns c = leaving_done _ _ c.loop-next.invariant c.in_default.ensures
