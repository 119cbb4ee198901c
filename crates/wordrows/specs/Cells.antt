-- What the functions over one cell of a row leave.
use Rattle.std.specs.Prelude.{◌≡◌, List, ◌⊎◌, ℕ, ◌+◌, ◌≤◌, ◌<◌, max, length, get_or, set}
use Rattle.std.specs.List.{between}
use Rattle.transducer.specs.Limits.{most_states}
use Rattle.product.specs.Machine.{to_of}
use Rattle.product.specs.Numbers.{no_transition}
use Rattle.outputs.specs.Outputs.{count_at, codes_at, HeldAt}
use Rattle.closure.specs.Closure.{flag_at_of}
use Rattle.wordrows.specs.Leads.{Lent, Leads}
use Rattle.wordrows.specs.Rows.{cell_at, place_of, Marked, Row, From, Entered}

-- ---- one mark

-- what `add` leaves: the places from `to` on, one for each state, have a flag where they had one, or where the list of flags has one
pub record Added (to : ℕ) (flags row row' : List ℕ) : Type 0 where
  pub size : length row' ≡ length row
  pub here : (i : ℕ) → i < most_states → get_or row' (to + i) 0 ≡ max (get_or flags i 0) (get_or row (to + i) 0)
  pub before : (i : ℕ) → i < to → get_or row' i 0 ≡ get_or row i 0
  pub behind : (i : ℕ) → to + most_states ≤ i → get_or row' i 0 ≡ get_or row i 0

-- what `mark` leaves where the state q of the cell j is to be marked: with it all states of its closure are
pub data Mark (closures row : List ℕ) (j q : ℕ) (row' : List ℕ) : Type 0 where
  old : 0 < get_or row (place_of j q) 0 → row' ≡ row → Mark closures row j q row'
  new : Added (place_of j 0) (between (flag_at_of q 0) (flag_at_of q most_states) closures) (set row (cell_at j) 1) row'
      → Mark closures row j q row'

module _ (m written output : List ℕ) where
  -- ---- the rows grow

  -- `here` and `next` have grown to the rows here' and next': what was marked is marked, and what is marked is marked for a reason
  pub record Grows (code : ℕ) (here next here' next' : List ℕ) : Type 0 where
    pub row : Row m written output here'
    pub row_next : Row m written output next'
    pub kept : (j q : ℕ) → Marked here j q → Marked here' j q
    pub kept_next : (j q : ℕ) → Marked next j q → Marked next' j q
    pub reached : (j q : ℕ) → Marked here' j q → From m written output (Marked here) j q
    pub entered : (j q : ℕ) → Marked next' j q → From m written output (λ k p. Marked next k p ⊎ Entered m written output here code k p) j q

  -- what the transitions below `low` lead to from the state q at the position j is marked
  pub record Done (code j q low : ℕ) (here next : List ℕ) : Type 0 where
    pub silent : (l k p : ℕ) → l < low → Leads m written output 0 j q l k p → Marked here k p
    pub reading : (l k p : ℕ) → l < low → Leads m written output code j q l k p → Marked next k p

  -- all of them
  abbrev pub Closed : ℕ → ℕ → ℕ → List ℕ → List ℕ → Type 0
  Closed code j q here next = Done code j q no_transition here next

  -- ---- work at the cell j

  -- what the functions that go on from a state of the cell j rely on
  pub record Ready (closures : List ℕ) (code j : ℕ) (here next : List ℕ) : Type 0 where
    pub lent : Lent m written closures output
    pub some : 1 ≤ code
    pub inside : j ≤ length output
    pub row : Row m written output here
    pub row_next : Row m written output next

  -- the rows grow, and in the row `here` nothing new is marked in the cell j or before it
  pub record Goes (code j : ℕ) (here next here' next' : List ℕ) : Type 0 where
    pub grows : Grows code here next here' next'
    pub below : (i q : ℕ) → i ≤ j → Marked here' i q → Marked here i q

  -- what `put` leaves: the state that transition l enters is marked, if what l writes stands at the position j
  pub data Put (closures : List ℕ) (j l : ℕ) (row row' : List ℕ) : Type 0 where
    put : HeldAt output j (codes_at written l) → Mark closures row (j + count_at written l) (to_of m l) row' → Put closures j l row row'
    passed : (HeldAt output j (codes_at written l) → ⊥) → row' ≡ row → Put closures j l row row'

  -- what `follow` leaves: what transition l leads to from the position j is marked
  pub record Followed (code j l : ℕ) (here next here' next' : List ℕ) : Type 0 where
    pub goes : Goes code j here next here' next'
    pub silent : (q k p : ℕ) → Leads m written output 0 j q l k p → Marked here' k p
    pub reading : (q k p : ℕ) → Leads m written output code j q l k p → Marked next' k p

  -- what `expand` leaves: the state q at the position j is done
  pub record Expanded (code j q : ℕ) (here next here' next' : List ℕ) : Type 0 where
    pub goes : Goes code j here next here' next'
    pub closed : Closed code j q here' next'

  -- what `cell` leaves after the states below n: all that are marked in the cell j are done
  pub record Filled (code j n : ℕ) (here next here' next' : List ℕ) : Type 0 where
    pub goes : Goes code j here next here' next'
    pub closed : (q : ℕ) → q < n → Marked here' j q → Closed code j q here' next'
