-- The allowed pairs of start states whose first state is below p are found, and nothing else.
use Rattle.worklist.specs.Search.{Rooted}
use Rattle.product.specs.Numbers.{most_pairs, pair_of}
use Rattle.product.specs.Confined.{Begins}
use Rattle.product.proofs.search.Confined.begin.Given as goal

abbrev pub invariant-loop-p : goal.invariant-loop-p
invariant-loop-p l = Rooted (Begins l.self.starts l.self.starts2 l.self.allowed.now) most_pairs l.found (pair_of l.p 0)
