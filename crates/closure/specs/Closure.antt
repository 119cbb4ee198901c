-- The closure of a state under transitions that read nothing and write nothing, and a list that tells it.
use Rattle.std.specs.Prelude.{◌≡◌, Bool, true, false, List, ◌⊎◌, ℕ, ◌*◌, ◌+◌, ◌<◌, length, get_or, set}
use Rattle.transducer.specs.Limits.{most_states}
use Rattle.worklist.specs.Lists.{zeros}
use Rattle.product.specs.Machine.{key_of, from_of, to_of, Leaves}
use Rattle.outputs.specs.Outputs.{count_at}

-- transition l of a machine leads from q to p, reads nothing and writes nothing
pub record Empty (m written : List ℕ) (q l p : ℕ) : Type 0 where
  pub leaves : Leaves m l q
  pub key : key_of m l ≡ 0
  pub count : count_at written l ≡ 0
  pub enters : to_of m l ≡ p

-- such transitions lead from q to p
pub data Silent (m written : List ℕ) : ℕ → ℕ → Type 0 where
  stay : {q p : ℕ} → q ≡ p → Silent m written q p
  step : {q l s p : ℕ} → Empty m written q l s → Silent m written s p → Silent m written q p

-- the list has a flag for each pair of states: that of q and p
abbrev pub flag_at_of : ℕ → ℕ → ℕ
flag_at_of q p = q * most_states + p

-- the flag is set
pub record Set (list : List ℕ) (q p : ℕ) : Type 0 where
  pub first : q < most_states
  pub second : p < most_states
  pub flag : 0 < get_or list (flag_at_of q p) 0

-- the places of the list
abbrev pub most_flags : ℕ
most_flags = most_states * most_states

-- the list tells the closures: the flag of q and p is set exactly where such transitions lead from q to p
pub record ClosureOf (m written list : List ℕ) : Type 0 where
  pub size : length list ≡ most_flags
  pub all : (q p : ℕ) → q < most_states → Silent m written q p → Set list q p
  pub only : (q p : ℕ) → Set list q p → Silent m written q p

-- ---- how it is made

-- each state is in its own closure, and what is flagged is in it
pub record Sound (m written list : List ℕ) : Type 0 where
  pub size : length list ≡ most_flags
  pub own : (q : ℕ) → q < most_states → Set list q q
  pub only : (q p : ℕ) → Set list q p → Silent m written q p

-- the flags of each state below n and itself are set, and no other
pub record Own (n : ℕ) (list : List ℕ) : Type 0 where
  pub size : length list ≡ most_flags
  pub own : (q : ℕ) → q < n → 0 < get_or list (flag_at_of q q) 0
  pub only : (i : ℕ) → 0 < get_or list i 0 → (q : ℕ) × (q < most_states) × (i ≡ flag_at_of q q)

-- what `take` leaves; r says whether the flag is new
pub data Takes (to from : ℕ) (list list' : List ℕ) (r : Bool) : Type 0 where
  new : to < length list → 0 < get_or list from 0 → get_or list to 0 ≡ 0 → list' ≡ set list to 1 → r ≡ true → Takes to from list list' r
  old : (0 < get_or list from 0 → 0 < get_or list to 0) → list' ≡ list → r ≡ false → Takes to from list list' r

-- what `join` leaves after the states below n: q has the flags that s had, too; r says whether one is new
pub record Joins (q s n : ℕ) (list list' : List ℕ) (r : Bool) : Type 0 where
  pub size : length list' ≡ length list
  pub kept : (a b : ℕ) → Set list a b → Set list' a b
  pub gained : (b : ℕ) → b < n → Set list s b → Set list' q b
  pub only : (a b : ℕ) → Set list' a b → Set list a b ⊎ ((a ≡ q) × Set list s b)
  pub same : r ≡ false → list' ≡ list
  pub fewer : r ≡ true → zeros list' < zeros list

-- what `follow` leaves for transition l
pub data Followed (m written : List ℕ) (l : ℕ) (list list' : List ℕ) (r : Bool) : Type 0 where
  joined : Empty m written (from_of m l) l (to_of m l) → Joins (from_of m l) (to_of m l) most_states list list' r → Followed m written l list list' r
  passed : ((q p : ℕ) → Empty m written q l p → ⊥) → list' ≡ list → r ≡ false → Followed m written l list list' r

-- what a pass leaves after the transitions below l; r says whether a flag is new
pub record Passed (m written : List ℕ) (l : ℕ) (list list' : List ℕ) (r : Bool) : Type 0 where
  pub sound : Sound m written list'
  pub same : r ≡ false → list' ≡ list
  pub closed : r ≡ false → (k : ℕ) → k < l → (q s p : ℕ) → Empty m written q k s → Set list' s p → Set list' q p
  pub fewer : r ≡ true → zeros list' < zeros list
