-- So many of the numbers that are passed are not 0.
use Rattle.std.proofs.Common.{◌≡◌, ℕ, ltb, take, count_by}
use Rattle.product.proofs.search.allowed_pairs.Given as goal

abbrev pub invariant-loop-number : goal.invariant-loop-number
invariant-loop-number l = l.count ≡ count_by {X = ℕ} (λ number. ltb 0 number) (take l.number-index l.allowed)
