-- What the ways out of pairs write, the ways being given by links and labels and what a transition writes by a list of entries.
use Rattle.std.specs.Prelude.{◌≡◌, Bool, true, false, List, [], ◌∷◌, ◌++◌, ◌≢◌, ℕ, ◌+◌, ◌*◌, ◌-◌, ◌≤◌, ◌<◌, length, get_or}
use Rattle.transducer.specs.Limits.{most_outputs}
use Rattle.worklist.specs.Search.{Chain}
use Rattle.worklist.specs.Links.{way_from}
use Rattle.product.specs.Numbers.{most_pairs, Label}
use Rattle.witness.specs.Sides.{taken_of}
use Rattle.outputs.specs.Outputs.{codes_at, Entries}

-- a way out has fewer steps than there are pairs, and one side of it at most so many codes
abbrev pub most_way : ℕ
most_way = most_outputs * (most_pairs - 1)

-- the gap of a pair whose two sides write equally much: more than one side can write
abbrev pub level : ℕ
level = most_outputs * most_pairs

-- lists of links and labels of pairs: a link leads to a pair, by the label of a step
pub record Links (link label : List ℕ) : Type 0 where
  pub long_link : length link ≡ most_pairs
  pub long_label : length label ≡ most_pairs
  pub linked : (v : ℕ) → get_or link v 0 ≢ 0 → (get_or link v 0 ≤ most_pairs) × Label (get_or label v 0)

-- the lists have their lengths
pub record Lists (written link label : List ℕ) : Type 0 where
  pub outputs : Entries written
  pub links : Links link label

-- a pair from which the links lead to a pair that has none, fewer than there are pairs
pub record Led (link label : List ℕ) (v : ℕ) : Type 0 where
  pub inside : v < most_pairs
  pub chain : Chain link label v (way_from link label v)
  pub short : length (way_from link label v) < most_pairs

-- what the right side, or the left, writes on steps with these labels
unfoldable pub written_on : List ℕ → Bool → List ℕ → List ℕ
written_on written right [] = []
written_on written right (k ∷ labels) = codes_at written (taken_of right k) ++ written_on written right labels

-- the output of the right side, or of the left, of the way out of v
abbrev pub word_out : List ℕ → List ℕ → List ℕ → Bool → ℕ → List ℕ
word_out written link label right v = written_on written right (way_from link label v)

-- g is the gap of v: `level`, and how many codes the right side of the way out of v writes more than the left
pub record GapIs (written link label : List ℕ) (v g : ℕ) : Type 0 where
  pub balance : g + length (word_out written link label false v) ≡ level + length (word_out written link label true v)

-- v has a place among the first n of the order
pub record Placed (order : List ℕ) (n v : ℕ) : Type 0 where
  pub place : ℕ
  pub low : place < n
  pub is : get_or order place 0 ≡ v

-- the first n places of the order have pairs with ways out, each behind the pair that its link leads to
pub record Order (link label order : List ℕ) (n : ℕ) : Type 0 where
  pub long : length order ≡ most_pairs
  pub few : n ≤ most_pairs
  pub ways : (h : ℕ) → h < n → Led link label (get_or order h 0)
  pub earlier : (h : ℕ) → h < n → get_or link (get_or order h 0) 0 ≢ 0 → Placed order h (get_or link (get_or order h 0) 0 - 1)

-- the gaps of the pairs that have a place among the first n of the order, and 0 for every other pair
pub record Gaps (written link label order : List ℕ) (n : ℕ) (gap : List ℕ) : Type 0 where
  pub placed : (v : ℕ) → Placed order n v → GapIs written link label v (get_or gap v 0)
  pub only : (v : ℕ) → get_or gap v 0 ≢ 0 → Placed order n v

-- what the equations rely on: the lists, and for each pair whose gap is not 0 a way out, and the gap of it
pub record Grounds (written link label gap : List ℕ) : Type 0 where
  pub lists : Lists written link label
  pub long_gap : length gap ≡ most_pairs
  pub ways : (v : ℕ) → v < most_pairs → get_or gap v 0 ≢ 0 → Led link label v
  pub gaps : (v : ℕ) → v < most_pairs → get_or gap v 0 ≢ 0 → GapIs written link label v (get_or gap v 0)

-- the four lists of the ways out
pub record WayLists : Type 0 where
  pub written : List ℕ
  pub link : List ℕ
  pub label : List ℕ
  pub gap : List ℕ

-- two words, one of each side
pub record TwoWords : Type 0 where
  pub left : List ℕ
  pub right : List ℕ

-- that of the right side, or of the left
abbrev pub word_in : Bool → TwoWords → List ℕ
word_in true words = words.right
word_in false words = words.left
