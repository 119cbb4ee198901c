use Rattle.outputs.proofs.OutputLaws.{Entering}
use Rattle.outputs.proofs.enter.Given as goal

-- behind the count the codes below j are written
abbrev pub invariant-loop-j : goal.invariant-loop-j
invariant-loop-j l = Entering l.fn.v l.at l.initial.places l.places l.j
