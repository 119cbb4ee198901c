-- So are those of p whose second state is below q.
use Rattle.worklist.specs.Search.{Rooted}
use Rattle.product.specs.Numbers.{most_pairs, pair_of}
use Rattle.product.specs.Confined.{Begins}
use Rattle.product.proofs.search.Confined.begin_row.Given as goal

abbrev pub invariant-loop-q : goal.invariant-loop-q
invariant-loop-q l = Rooted (Begins l.self.starts l.self.starts2 l.self.allowed.now) most_pairs l.found (pair_of l.p l.q)
