-- The loop's invariant: the pairs below v have their states, and n is the state that v has if it is joined.
use Rattle.std.proofs.Common.{◌≡◌, ℕ, ◌≤◌, ◌<◌, length, get_or}
use Rattle.product.specs.Numbers.{most_pairs}
use Rattle.joints.specs.Found.{among}
use Rattle.series.specs.Result.{state_of}
use Rattle.series.proofs.table.number.Given as goal

abbrev pub invariant-loop-v : goal.invariant-loop-v
invariant-loop-v l = record {
  long : length l.numbering.states ≡ most_pairs;
  next : l.numbering.count ≡ state_of (among l.pairs) l.v;
  low : l.numbering.count ≤ l.v;
  state : (u : ℕ) → u < l.v → get_or l.numbering.states u 0 ≡ state_of (among l.pairs) u;
}
