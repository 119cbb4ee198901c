-- The worklist search over pairs of states, one of each of two machines, that is confined to a list of numbers, one for each pair: a pair is
-- allowed where its number is not 0. The search begins at the pairs of start states and goes by steps, to allowed pairs only.
use Rattle.std.specs.Prelude.{Bool, cond, ◌&&◌, ◌≡◌, List, ℕ, ◌<◌, length, get_or, eqb, ltb}
use Rattle.worklist.specs.Lists.{Worklist, Found, visited}
use Rattle.worklist.specs.Search.{Grown}
use Rattle.transducer.specs.declared.StateSet.{StateSet}
use Rattle.product.specs.Machine.{Machine}
use Rattle.product.specs.Numbers.{most_pairs, first_of, second_of, PairIn}
use Rattle.product.specs.Steps.{Steps, target_of}

-- the pair v is allowed
abbrev pub Allowed : List ℕ → ℕ → Type 0
Allowed allowed v = 0 < get_or allowed v 0

-- the state after `node` is visited if it is allowed
abbrev pub offered : List ℕ → Worklist → ℕ → ℕ → ℕ → Worklist
offered allowed s node from label = cond (eqb (get_or allowed node 0) 0) s (visited s node from label)

module _ (starts starts' : StateSet) (allowed : List ℕ) where
  -- the search begins at v: an allowed pair of start states
  pub record Begins (v : ℕ) : Type 0 where
    pub start_pair : PairIn starts starts' v
    pub inside : Allowed allowed v

  module _ (left right : List ℕ) where
    -- the search goes from u by the label k to v: a step, to an allowed pair at which it does not begin
    pub record Goes (u k v : ℕ) : Type 0 where
      pub steps : Steps left right u k
      pub target : target_of left right u k ≡ v
      pub inside : Allowed allowed v
      pub later : PairIn starts starts' v → ⊥

    -- what the search relies on
    pub record Lent : Type 0 where
      pub left_machine : Machine left
      pub right_machine : Machine right
      -- the list has a number for each pair
      pub long : length allowed ≡ most_pairs

    -- what the expansion of the place `head` relies on
    pub record Ready (s : Worklist) (head : ℕ) : Type 0 where
      pub lent : Lent
      -- all is found for a reason
      pub grown : Grown Begins Goes most_pairs s
      -- the pairs at which the search begins are found
      pub roots : (v : ℕ) → Begins v → Found s v
      -- the place is taken
      pub place : head < s.count

-- ---- a list that allows the pairs that pass a test

-- the first state of the pair v is below n, the second below n'
unfoldable pub both_below : ℕ → ℕ → ℕ → Bool
both_below n n' v = ltb (first_of v) n && ltb (second_of v) n'

-- of the pairs below `bound`, the numbers of those that pass the test are 1, and those of the others 0
pub record Marked (test : ℕ → Bool) (numbers : List ℕ) (bound : ℕ) : Type 0 where
  pub long : length numbers ≡ most_pairs
  pub tested : (v : ℕ) → v < bound → get_or numbers v 0 ≡ cond (test v) 1 0
