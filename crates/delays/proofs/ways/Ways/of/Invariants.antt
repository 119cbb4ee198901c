-- The pairs of the first places have their gaps, and every other pair has 0.
use Rattle.std.proofs.Common.{◌≡◌, length}
use Rattle.product.specs.Numbers.{most_pairs}
use Rattle.delays.specs.WaysOut.{Gaps}
use Rattle.delays.proofs.ways.Ways.of.Given as goal

abbrev pub invariant-loop-place : goal.invariant-loop-place
invariant-loop-place l = record {
  gaps : Gaps l.written l.links.link.now l.links.label.now l.found.order l.place l.gap;
  long : length l.gap ≡ most_pairs;
}
