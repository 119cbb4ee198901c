-- The way in is written, its last step first.
use Rattle.equations.proofs.Writing.{Entering}
use Rattle.equations.proofs.way.enter.Given as goal

abbrev pub invariant-loop-next : goal.invariant-loop-next
invariant-loop-next l = Entering l.links.link.now l.links.label.now l.v l.fn.steps l.steps l.at l.node

abbrev pub decreases-loop-next : goal.decreases-loop-next
decreases-loop-next l = l.at
