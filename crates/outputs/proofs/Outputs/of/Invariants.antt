use Rattle.outputs.proofs.OutputLaws.{Filling}
use Rattle.outputs.proofs.Outputs.of.Given as goal

-- the entries of the transitions below l stand in the list
abbrev pub invariant-loop-l : goal.invariant-loop-l
invariant-loop-l l = Filling l.fn.t l.places l.l
