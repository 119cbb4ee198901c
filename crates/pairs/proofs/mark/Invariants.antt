-- The numbers below v are written.
use Rattle.product.specs.Confined.{Marked}
use Rattle.pairs.specs.UsefulPairs.{is_member}
use Rattle.pairs.proofs.mark.Given as goal

abbrev pub invariant-loop-v : goal.invariant-loop-v
invariant-loop-v l = Marked (is_member l.set) l.number-items l.v
