use Rattle.closure.specs.Closure.{Joins}
use Rattle.closure.proofs.Closures.join.Given as goal

-- q has the flags of the states below p that s had
abbrev pub invariant-loop-p : goal.invariant-loop-p
invariant-loop-p l = Joins l.q l.s l.p l.fn.self l.self l.changed
