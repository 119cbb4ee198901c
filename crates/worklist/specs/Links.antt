-- The way along links from a node: what `Chain` of specs/Search.antt spells, as a function of the node.
use Rattle.std.specs.Prelude.{cond, List, [], ◌∷◌, ℕ, zero, suc, ◌-◌, eqb, length, get_or}

-- the labels on the way along the links from v, `fuel` at most (a link is 1 + the next node, or 0 where the way ends)
unfoldable pub labels_by : List ℕ → List ℕ → ℕ → ℕ → List ℕ
labels_by link label zero v = []
labels_by link label (suc fuel) v = cond (eqb (get_or link v 0) 0) [] (get_or label v 0 ∷ labels_by link label fuel (get_or link v 0 - 1))

-- all of them: a way that ends is not longer than the list of links
unfoldable pub way_from : List ℕ → List ℕ → ℕ → List ℕ
way_from link label v = labels_by link label (length link) v
