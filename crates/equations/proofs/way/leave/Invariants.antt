-- The way out is written, its first step first.
use Rattle.std.proofs.Common.{◌-◌}
use Rattle.equations.specs.Links.{most_steps}
use Rattle.equations.proofs.Writing.{Leaving}
use Rattle.equations.proofs.way.leave.Given as goal

abbrev pub invariant-loop-next : goal.invariant-loop-next
invariant-loop-next l = Leaving l.links.link.now l.links.label.now l.v l.fn.steps l.start l.steps l.at l.node

abbrev pub decreases-loop-next : goal.decreases-loop-next
decreases-loop-next l = most_steps - l.at
