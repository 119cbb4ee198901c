-- The way back from a place of a search along its parents.
use Rattle.std.specs.Prelude.{◌≡◌, ℕ, ◌≤◌, ◌<◌, length, get_or}
use Rattle.worklist.specs.Lists.{Worklist}
use Rattle.wordsearch.specs.Limits.{most_nodes}

-- the place is one of the search's, and each parent up to it is older: so the parents lead back from it to a root
pub record Back (N : ℕ) (s : Worklist) (place : ℕ) : Type 0 where
  pub nodes : N ≤ most_nodes
  pub parents : length s.parent ≡ N
  pub labels : length s.via ≡ N
  pub inside : place < N
  pub older : (i : ℕ) → i ≤ place → get_or s.parent i 0 ≤ i
