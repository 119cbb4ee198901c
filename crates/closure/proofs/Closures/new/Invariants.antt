use Rattle.worklist.specs.Lists.{zeros}
use Rattle.closure.specs.Closure.{Sound}
use Rattle.closure.proofs.Closures.new.Given as goal

-- what is flagged is right
abbrev pub invariant-passes : goal.invariant-passes
invariant-passes l = Sound l.m l.written l.closures

abbrev pub decreases-passes : goal.decreases-passes
decreases-passes l = zeros l.closures
