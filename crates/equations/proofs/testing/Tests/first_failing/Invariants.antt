-- `row` is a row, or there is none left, and the steps of the rows before it have passed; in a row `step` is a step, or there is none left, and the
-- steps of the row before it have passed too.
use Rattle.std.proofs.Common.{◌-◌, ◌≤◌, ◌<◌}
use Rattle.product.specs.Machine.{Along}
use Rattle.product.specs.Numbers.{first_of, label_of}
use Rattle.product.specs.Steps.{past_last, Steps}
use Rattle.equations.proofs.TriedLaws.{Going}
use Rattle.equations.proofs.testing.Tests.first_failing.Given as goal

abbrev pub invariant-loop-step : goal.invariant-loop-step
invariant-loop-step l = record {
  most : l.step ≤ past_last;
  has : l.step < past_last → Steps l.self.machine l.self.machine l.i (label_of l.row l.step);
  going : Going l.self l.needs l.i l.last (label_of l.row l.step);
}

abbrev pub decreases-loop-step : goal.decreases-loop-step
decreases-loop-step l = past_last - l.step

abbrev pub invariant-loop-row : goal.invariant-loop-row
invariant-loop-row l = record {
  most : l.row ≤ past_last;
  has : l.row < past_last → Along l.self.machine (first_of l.i) l.row;
  going : Going l.self l.needs l.i l.last (label_of l.row 0);
}

abbrev pub decreases-loop-row : goal.decreases-loop-row
decreases-loop-row l = past_last - l.row
