use Rattle.closure.specs.Closure.{Passed}
use Rattle.closure.proofs.Closures.pass.Given as goal

-- the transitions below l are gone through
abbrev pub invariant-loop-l : goal.invariant-loop-l
invariant-loop-l l = Passed l.m l.written l.l l.fn.self l.self l.changed
