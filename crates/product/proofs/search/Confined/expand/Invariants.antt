-- `row` is a row of the pair, or there is none left; and the steps of the rows before it lead to pairs found.
use Rattle.std.proofs.Common.{◌-◌, ◌≤◌, ◌<◌, get_or}
use Rattle.product.specs.Machine.{Along}
use Rattle.product.specs.Numbers.{first_of, label_of}
use Rattle.product.specs.Steps.{past_last}
use Rattle.product.proofs.ConfinedLaws.{Scan}
use Rattle.product.proofs.search.Confined.expand.Given as goal

abbrev pub invariant-loop-row : goal.invariant-loop-row
invariant-loop-row l = record {
  most : l.row ≤ past_last;
  along : l.row < past_last → Along l.self.product.left.now (first_of (get_or l.initial.found.order l.head 0)) l.row;
  scan : Scan l.self.starts l.self.starts2 l.self.allowed.now l.self.product.left.now l.self.product.right.now l.initial.found l.found l.head 0
      (label_of l.row 0);
}

abbrev pub decreases-loop-row : goal.decreases-loop-row
decreases-loop-row l = past_last - l.row
