-- The pairs that are found count.
use Rattle.equations.specs.Loops.{Places}
use Rattle.equations.proofs.tests.ways_seen.Given as goal

abbrev pub invariant-loop-place : goal.invariant-loop-place
invariant-loop-place g l = Places l.found.order l.found.count l.ways.gap
