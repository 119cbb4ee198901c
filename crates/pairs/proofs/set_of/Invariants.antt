-- The flags below v say whether the ranks are not 0.
use Rattle.std.proofs.Common.{◌≡◌, ℕ, ◌<◌, false, length, get_or}
use lib.Dec.{ltb}
use Rattle.product.specs.Numbers.{most_pairs}
use Rattle.pairs.proofs.set_of.Given as goal

abbrev pub invariant-loop-v : goal.invariant-loop-v
invariant-loop-v l = record {
  long : length l.flag-items ≡ most_pairs;
  tested : (i : ℕ) → i < l.v → get_or l.flag-items i false ≡ ltb 0 (get_or l.rank i 0);
}
