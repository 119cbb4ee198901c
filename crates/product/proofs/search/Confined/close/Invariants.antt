-- The places before `head` are done.
use Rattle.std.proofs.Common.{◌≡◌, ◌-◌}
use Rattle.worklist.specs.Lists.{non_zeros}
use Rattle.worklist.specs.Search.{Working}
use Rattle.product.specs.Numbers.{most_pairs}
use Rattle.product.specs.Confined.{Begins, Goes}
use Rattle.product.proofs.search.Confined.close.Given as goal

abbrev pub invariant-loop-head : goal.invariant-loop-head
invariant-loop-head l = record {
  most : l.most ≡ non_zeros l.self.allowed.now;
  working : Working (Begins l.self.starts l.self.starts2 l.self.allowed.now)
      (Goes l.self.starts l.self.starts2 l.self.allowed.now l.self.product.left.now l.self.product.right.now) most_pairs l.found l.head;
}

abbrev pub decreases-loop-head : goal.decreases-loop-head
decreases-loop-head l = most_pairs - l.head
