-- The loop's invariant: the steps from the joined pairs below v are listed.
use Rattle.std.proofs.Common.{◌≡◌, List, [], cond, ℕ}
use Rattle.joints.specs.Found.{among}
use Rattle.series.specs.Result.{gather}
use Rattle.series.specs.Parts.{rows_of}
use Rattle.series.proofs.listing.list.Given as goal

-- the steps from the pair v, if it is joined
abbrev pub from : List ℕ → List ℕ → List ℕ → ℕ → List ℕ
from left right joined v = cond (among joined v) (rows_of left right (among joined) v) []

abbrev pub invariant-loop-v : goal.invariant-loop-v
invariant-loop-v l = l.list ≡ gather l.v (from l.series.product.left.now l.series.product.right.now l.series.pairs.now)
