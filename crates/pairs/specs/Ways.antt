-- The ways into and out of the useful pairs. A way is kept as links: for each pair the number of the next one, plus 1, and the label of the step
-- between the two; 0 where the way ends.
use Rattle.std.specs.Prelude.{cond, ◌≡◌, List, ◌↔◌, ◌≢◌, ℕ, ◌+◌, ◌-◌, ◌≤◌, ◌<◌, eqb, length, get_or, replicate, Ok}
use Rattle.worklist.specs.Lists.{Worklist, Found}
use Rattle.worklist.specs.Search.{Grown, Chain}
use Rattle.worklist.specs.Links.{way_from}
use Rattle.transducer.specs.Useful.{UsefulPair}
use Rattle.transducer.specs.declared.StateSet.{StateSet}
use Rattle.transducer.specs.declared.Transducer.{Transducer}
use Rattle.product.specs.Numbers.{most_pairs, first_of, second_of, PairIn, Moves}
use Rattle.pairs.specs.UsefulPairs.{UsefulPairsOf}
use Rattle.pairs.specs.declared.UsefulPairs.{UsefulPairs}
use Rattle.pairs.specs.declared.Links.{Links}

-- the pair v is useful
abbrev pub Useful : Transducer → ℕ → Type 0
Useful t v = UsefulPair t (first_of v) (second_of v)

-- the step with the label k leads from the pair v to the pair u
abbrev pub MovesBack : Transducer → ℕ → ℕ → ℕ → Type 0
MovesBack t u k v = Moves t v k u

-- ---- what the contracts of `ways_out` and `ways_in` say

-- ways along links from the useful pairs to the pairs of two states of `ends`, where `Leads j k v` says that the step with the label k lies
-- between j and v
module _ (t : Transducer) (ends : StateSet) (Leads : ℕ → ℕ → ℕ → Type 0) (link step : List ℕ) where
  -- each useful pair has a way, of fewer than u steps
  pub record Way (u : ℕ) : Type 0 where
    -- a link is that of a useful pair, and leads to another by the step with its label
    pub linked : (v j : ℕ) → get_or link v 0 ≡ j + 1 → Useful t v × Useful t j × Leads j (get_or step v 0) v
    -- a useful pair has none exactly where it is a pair of `ends`
    pub at_end : (v : ℕ) → Useful t v → (get_or link v 0 ≡ 0) ↔ PairIn ends ends v
    -- from each, the links lead to such a pair
    pub chain : (v : ℕ) → Useful t v → Chain link step v (way_from link step v)
    pub short : (v : ℕ) → Useful t v → length (way_from link step v) < u

-- the useful pairs, and for each a way out, to two final states
pub record WaysOut (t : Transducer) (r : UsefulPairs) (out out_step : List ℕ) : Type 0 where
  pub pairs : UsefulPairsOf t (Ok r)
  pub way_out : Way t t.finals (MovesBack t) out out_step r.count

-- the first `count` places of `order` have the useful pairs in the order in which they were found
pub record Discovered (t : Transducer) (link order : List ℕ) (count : ℕ) : Type 0 where
  -- there is a place for each pair of states
  pub long : length order ≡ most_pairs
  -- there are at most as many
  pub few : count ≤ most_pairs
  -- what stands at a place is a pair
  pub low : (i : ℕ) → i < count → get_or order i 0 < most_pairs
  -- it is useful
  pub useful : (i : ℕ) → i < count → Useful t (get_or order i 0)
  -- it stands at no other place
  pub apart : (i k : ℕ) → i < k → k < count → get_or order i 0 ≢ get_or order k 0
  -- its link leads to an earlier place
  pub back : (i j : ℕ) → i < count → get_or link (get_or order i 0) 0 ≡ j + 1 → (k : ℕ) × (k < i) × (get_or order k 0 ≡ j)
  -- each useful pair has a place
  pub place : (v : ℕ) → Useful t v → (i : ℕ) × (i < count) × (get_or order i 0 ≡ v)

-- for each useful pair a way in, backwards from it to two start states; u is how many there are
abbrev pub WayIn : Transducer → ℕ → List ℕ → List ℕ → Type 0
WayIn t u into into_step = Way t t.starts (Moves t) into into_step u

-- ---- what a search leaves from which such ways are read off

-- exactly the useful pairs are found, each by a step between it and a pair found before, but for the pairs of `ends`
module _ (t : Transducer) (ends : StateSet) (Leads : ℕ → ℕ → ℕ → Type 0) where
  -- a step between u, found before, and v, no pair of `ends`
  pub record Later (u k v : ℕ) : Type 0 where
    pub leads : Leads u k v
    pub no_end : PairIn ends ends v → ⊥

  pub record Tree (s : Worklist) : Type 0 where
    pub grown : Grown (PairIn ends ends) Later most_pairs s
    pub found : (v : ℕ) → Found s v ↔ Useful t v

-- ---- from the lists of a search to links

-- links of which no pair has one
unfoldable pub blank_links : Links
blank_links = record { link = replicate most_pairs 0; label = replicate most_pairs 0 }

-- what stands for a parent in the links: the parent is given as 1 + its place, and becomes 1 + the pair at that place; a root has none, 0
unfoldable pub link_of : List ℕ → ℕ → ℕ
link_of order from = cond (eqb from 0) 0 (get_or order (from - 1) 0 + 1)

-- the lists of a search that has found `count` pairs: at each place another pair, whose parent stands at an older place
pub record Traced (order parent via : List ℕ) (count : ℕ) : Type 0 where
  pub few : count ≤ most_pairs
  pub long_order : length order ≡ most_pairs
  pub long_parent : length parent ≡ most_pairs
  pub long_via : length via ≡ most_pairs
  pub low : (i : ℕ) → i < count → get_or order i 0 < most_pairs
  pub older : (i : ℕ) → i < count → get_or parent i 0 ≤ i
  pub apart : (i k : ℕ) → i < k → k < count → get_or order i 0 ≢ get_or order k 0

-- the links of the pairs at the places below `bound`; no other pair has one
pub record Linked (order parent via link step : List ℕ) (bound : ℕ) : Type 0 where
  pub links : (i : ℕ) → i < bound → get_or link (get_or order i 0) 0 ≡ link_of order (get_or parent i 0)
  pub steps : (i : ℕ) → i < bound → get_or step (get_or order i 0) 0 ≡ get_or via i 0
  pub only : (v : ℕ) → get_or link v 0 ≢ 0 → (i : ℕ) × (i < bound) × (get_or order i 0 ≡ v)
