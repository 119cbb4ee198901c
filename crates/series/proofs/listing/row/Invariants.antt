-- The loop's invariant: the steps of the row that take less than m on the right side are added.
use Rattle.std.proofs.Common.{◌≡◌, ◌++◌, ◌-◌, ◌≤◌, ◌<◌}
use Rattle.product.specs.Numbers.{label_of}
use Rattle.product.specs.Steps.{past_last, Steps}
use Rattle.joints.specs.Found.{among}
use Rattle.series.specs.Result.{gather}
use Rattle.series.specs.Parts.{step_at}
use Rattle.series.proofs.listing.row.Given as goal

abbrev pub invariant-loop-m : goal.invariant-loop-m
invariant-loop-m l = record {
  in_range : l.m ≤ past_last;
  step : l.m < past_last → Steps l.series.product.left.now l.series.product.right.now l.v (label_of l.l l.m);
  added : l.list ≡ l.fn.list ++ gather l.m (step_at l.series.product.left.now l.series.product.right.now (among l.series.pairs.now) l.v l.l);
}

abbrev pub decreases-loop-m : goal.decreases-loop-m
decreases-loop-m l = past_last - l.m
