use Rattle.closure.specs.Closure.{Own}
use Rattle.closure.proofs.Closures.own.Given as goal

-- the states below q are in their own closures
abbrev pub invariant-loop-q : goal.invariant-loop-q
invariant-loop-q l = Own l.q l.flags
