-- The loop's invariant: after the row in which the left side rests, the rows of the transitions before l are added.
use Rattle.std.proofs.Common.{◌≡◌, ◌++◌, ◌-◌, ◌≤◌}
use Rattle.product.specs.Machine.{Along}
use Rattle.product.specs.Numbers.{no_transition, first_of}
use Rattle.joints.specs.Found.{among}
use Rattle.series.specs.Result.{gather}
use Rattle.series.specs.Parts.{row_of}
use Rattle.series.proofs.listing.rows.Given as goal

abbrev pub invariant-loop-l : goal.invariant-loop-l
invariant-loop-l l = record {
  in_range : l.l ≤ no_transition;
  along : Along l.series.product.left.now (first_of l.v) l.l;
  added : l.list ≡ l.initial.list ++ gather l.l (row_of l.series.product.left.now l.series.product.right.now (among l.series.pairs.now) l.v);
}

abbrev pub decreases-loop-l : goal.decreases-loop-l
decreases-loop-l l = no_transition - l.l
