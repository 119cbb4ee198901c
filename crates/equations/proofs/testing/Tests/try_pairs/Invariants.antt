-- The pairs at the places that are no longer to come pass, and those that have a flag.
use Rattle.equations.specs.Loops.{Flagged}
use Rattle.equations.proofs.PairLaws.{Behind}
use Rattle.equations.proofs.testing.Tests.try_pairs.Given as goal

abbrev pub invariant-loop-place : goal.invariant-loop-place
invariant-loop-place l = record {
  behind : Behind l.self l.found.order l.found.count l.place;
  flagged : Flagged l.self l.tested;
}
