-- `step` is a step of the row, or there is none left; and the steps of the row before `step` lead to pairs found.
use Rattle.std.proofs.Common.{◌-◌, ◌≤◌, ◌<◌, get_or}
use Rattle.product.specs.Numbers.{label_of}
use Rattle.product.specs.Steps.{past_last, Steps}
use Rattle.product.proofs.ConfinedLaws.{Scan}
use Rattle.product.proofs.search.Confined.expand_row.Given as goal

abbrev pub invariant-loop-step : goal.invariant-loop-step
invariant-loop-step l = record {
  most : l.step ≤ past_last;
  steps : l.step < past_last → Steps l.self.product.left.now l.self.product.right.now (get_or l.initial.found.order l.head 0) (label_of l.row l.step);
  scan : Scan l.self.starts l.self.starts2 l.self.allowed.now l.self.product.left.now l.self.product.right.now l.initial.found l.found l.head
      (label_of l.row 0) (label_of l.row l.step);
}

abbrev pub decreases-loop-step : goal.decreases-loop-step
decreases-loop-step l = past_last - l.step
