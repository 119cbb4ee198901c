-- A row: for each position in the output word, in a cell, a set of states, as one list of numbers. A cell has 33 places: the first is not 0 where the
-- cell has a mark, the others hold for each state 0, or another number where the state is marked.
use Rattle.std.specs.Prelude.{◌≡◌, List, ◌↔◌, ℕ, ◌+◌, ◌*◌, ◌≤◌, ◌<◌, length, get_or}
use Rattle.transducer.specs.Limits.{most_states}
use Rattle.transducer.specs.StateSet.{In}
use Rattle.transducer.specs.declared.StateSet.{StateSet}
use Rattle.closure.specs.Closure.{Empty}
use Rattle.wordrows.specs.Limits.{cell_places, row_places}
use Rattle.wordrows.specs.Leads.{Leads}

-- the first place of the cell j
abbrev pub cell_at : ℕ → ℕ
cell_at j = j * cell_places

-- the place of the state q in it
abbrev pub place_of : ℕ → ℕ → ℕ
place_of j q = cell_at j + 1 + q

-- the state q is marked in the cell j
pub record Marked (row : List ℕ) (j q : ℕ) : Type 0 where
  pub state : q < most_states
  pub mark : 0 < get_or row (place_of j q) 0

-- a row that holds 0 everywhere
pub record Blank (row : List ℕ) : Type 0 where
  pub size : length row ≡ row_places
  pub clear : (i : ℕ) → get_or row i 0 ≡ 0

-- a state of the set is marked in the cell j
pub record Ends (finals : StateSet) (row : List ℕ) (j : ℕ) : Type 0 where
  pub state : ℕ
  pub marked : Marked row j state
  pub final : In finals state

module _ (m written output : List ℕ) where
  -- the list is a row for the output word: a cell that has a mark says so, none behind the word's end has, and where a state is marked so is each that a
  -- transition which reads and writes nothing leads to from it
  pub record Row (row : List ℕ) : Type 0 where
    pub size : length row ≡ row_places
    pub said : (j q : ℕ) → Marked row j q → 0 < get_or row (cell_at j) 0
    pub inside : (j q : ℕ) → Marked row j q → j ≤ length output
    pub whole : (j q l p : ℕ) → Marked row j q → Empty m written q l p → Marked row j p

  -- transitions with the key 0, which read nothing, lead from a state and a position that satisfy P to the state q at the position j
  pub data From (P : ℕ → ℕ → Type 0) : ℕ → ℕ → Type 0 where
    root : {j q : ℕ} → P j q → From P j q
    silent : {j q l k p : ℕ} → From P j q → Leads m written output 0 j q l k p → From P k p

  -- a row in which all that satisfies P is marked, and nothing but what such transitions lead to from it
  pub record Begins (P : ℕ → ℕ → Type 0) (row : List ℕ) : Type 0 where
    pub rows : Row row
    pub all : (j q : ℕ) → P j q → Marked row j q
    pub only : (j q : ℕ) → Marked row j q → From P j q

  -- a row begins with the states of the set, at the front of the output word
  abbrev pub Started : StateSet → List ℕ → Type 0
  Started starts row = Begins (λ j q. (j ≡ 0) × In starts q) row

  -- a transition with the key `code` leads to the state p at the position k, from what is reached from a mark of the row
  pub record Entered (row : List ℕ) (code k p : ℕ) : Type 0 where
    pub j : ℕ
    pub q : ℕ
    pub l : ℕ
    pub reached : From (Marked row) j q
    pub leads : Leads m written output code j q l k p

  -- what closing a row leaves, `here` before and here' after: what is reached from it is marked in it, and nothing else; the next row begins with what is
  -- entered
  pub record Swept (code : ℕ) (here here' next' : List ℕ) : Type 0 where
    pub row : Row here'
    pub reached : (j q : ℕ) → Marked here' j q ↔ From (Marked here) j q
    pub next : Begins (Entered here code) next'
