-- The numbers below v are written.
use Rattle.product.specs.Confined.{both_below, Marked}
use Rattle.product.proofs.search.mark_states.Given as goal

abbrev pub invariant-loop-v : goal.invariant-loop-v
invariant-loop-v l = Marked (both_below l.states l.states2) l.numbers l.v
