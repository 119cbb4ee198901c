-- The lists with which a search begins. Assumes nothing.
use mathlib.Core.Path.{◌≡◌, refl}
use mathlib.Core.List.{List}
use Prim.Native.Nat.{ℕ, zero, suc}
use borrow.Author.Rules.{rules}
use lib.ListN.{length, get_or, replicate, length-replicate}
use Rattle.worklist.specs.Lists.{lists}
use Rattle.worklist.specs.Search.{Blank}
use Rattle.product.specs.Numbers.{most_pairs}

-- a search may begin with lists of a place for each pair and fresh ranks
pub fresh : {order parent via : List ℕ} → length order ≡ most_pairs → length parent ≡ most_pairs → length via ≡ most_pairs
    → Blank most_pairs (lists order (replicate most_pairs 0) parent via 0)
fresh o p v = record { order = o; rank = refl; parent = p; via = v; count = refl; small = search rules }

-- a list of one value
pub filled : {A : Type 0} (a : A) (n v : ℕ) → get_or (replicate n a) v a ≡ a
filled a zero v = refl
filled a (suc n) zero = refl
filled a (suc n) (suc v) = filled a n v

-- as many zeros as pairs are as many
pub zeros_long : length {A = ℕ} (replicate most_pairs 0) ≡ most_pairs
zeros_long = length-replicate {A = ℕ} most_pairs 0
