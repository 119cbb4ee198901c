-- What a mark leaves: the state and those of its closure are marked, and no other is that was not. Assumes nothing.
use mathlib.Core.Path.{◌≡◌, ap, ◌∙◌}
use mathlib.Core.List.{List}
use mathlib.Core.Logic.{◌≢◌, ◌⊎◌, inl, inr, ⊎_elim}
use Prim.Native.Nat.{ℕ, zero, suc, ◌+◌, ◌≤◌, ◌<◌}
use native.Mathlib.Decide.{ℕ_discrete}
use native.Mathlib.Omega.{arith}
use Rattle.std.specs.Prelude.{max}
use Rattle.std.specs.List.{between}
use Rattle.std.proofs.lemmas.List.Edits.{get_or-between}
use lib.ListN.{length, get_or, set, length-set}
use lib.Seq.{get_or-set_same, get_or-set_other}
use Rattle.transducer.specs.Limits.{most_states}
use Rattle.transducer.proofs.Bools.{le_or_lt}
use Rattle.closure.specs.Closure.{flag_at_of, Set, Silent, ClosureOf}
use Rattle.closure.proofs.PassLaws.{silent_more}
use Rattle.wordrows.specs.Limits.{most_output}
use Rattle.wordrows.specs.Rows.{cell_at, place_of, Marked, Row}
use Rattle.wordrows.specs.Cells.{Added, Mark}

-- one of the two is set where either is
either_first : (a b : ℕ) → 0 < a → 0 < max a b
either_first a b h = omega arith

either_second : (a b : ℕ) → 0 < b → 0 < max a b
either_second a b h = omega arith

either_only : (a b : ℕ) → 0 < max a b → (0 < a) ⊎ (0 < b)
either_only zero b h = inr (omega arith)
either_only (suc a) b h = inl (omega arith)

-- ---- a mark

-- the same mark, said otherwise
pub mark_as : {closures row row' : List ℕ} {j k q p : ℕ} → j ≡ k → q ≡ p → Mark closures row j q row' → Mark closures row k p row'
mark_as e f x = rw (e, f) at x

pub mark_length : {closures row row' : List ℕ} {j q : ℕ} → Mark closures row j q row' → length row' ≡ length row
mark_length (Mark.old k e) = ap length e
mark_length {row = row} {j = j} (Mark.new a) = a.size ∙ length-set row (cell_at j) 1

module _ {m written output : List ℕ} where
  -- where a state is marked, its closure is
  pub row_silent : {row : List ℕ} {j q p : ℕ} → Row m written output row → Marked row j q → Silent m written q p → Marked row j p
  row_silent h k (Silent.stay e) = rw (← e) k
  row_silent {j = j} {q} h k (Silent.step {l = l} {s = s} x r) = row_silent h (h.whole j q l s k x) r

  module _ {closures row row' : List ℕ} {j q : ℕ} (x : Mark closures row j q row') (closed : ClosureOf m written closures) (h : Row m written output row)
      (low : j ≤ most_output) (state : q < most_states) where
    -- a place of the cell has what it had, or what the closure has
    at_cell : Added (place_of j 0) (between (flag_at_of q 0) (flag_at_of q most_states) closures) (set row (cell_at j) 1) row' → (p : ℕ)
        → p < most_states → get_or row' (place_of j p) 0 ≡ max (get_or closures (flag_at_of q p) 0) (get_or row (place_of j p) 0)
    at_cell a p b =
        let s : place_of j 0 + p ≡ place_of j p = omega arith in
        let f : flag_at_of q 0 + p ≡ flag_at_of q p = omega arith in
        let g = get_or-between closures (flag_at_of q 0) (flag_at_of q most_states) p 0 (omega arith) in
        rw (s, g, f, get_or-set_other row (cell_at j) (place_of j p) 1 0 (λ y. omega arith)) at (a.here p b)

    -- a place of another cell has what it had
    elsewhere : {flags : List ℕ} → Added (place_of j 0) flags (set row (cell_at j) 1) row' → (i : ℕ) → i ≢ cell_at j
        → (i < place_of j 0) ⊎ (place_of j 0 + most_states ≤ i) → get_or row' i 0 ≡ get_or row i 0
    elsewhere a i n o = ⊎_elim (λ (b : i < place_of j 0). a.before i b) (λ (b : place_of j 0 + most_states ≤ i). a.behind i b) o ∙ get_or-set_other row (cell_at j) i 1 0 n

    -- the places of another cell
    apart : (i p : ℕ) → p < most_states → i ≢ j → (place_of i p < place_of j 0) ⊎ (place_of j 0 + most_states ≤ place_of i p)
    apart i p b n = ⊎_elim (λ (c : i ≤ j). inl (omega (arith, n))) (λ (c : j < i). inr (omega arith)) (le_or_lt i j)

    -- what was marked is marked
    pub mark_kept : (i p : ℕ) → Marked row i p → Marked row' i p
    mark_kept i p k = record { state = k.state; mark = go x (ℕ_discrete i j) }
      where
        go : Mark closures row j q row' → Dec (i ≡ j) → 0 < get_or row' (place_of i p) 0
        go (Mark.old y e) d = rw e k.mark
        go (Mark.new a) (yes e) = rw e (rw (at_cell a p k.state) (either_second (get_or closures (flag_at_of q p) 0) _ (rw e at k.mark)))
        go (Mark.new a) (no n) = rw (elsewhere a (place_of i p) (λ y. omega (arith, k.state)) (apart i p k.state n)) k.mark

    -- the closure of q is marked
    pub mark_marked : (p : ℕ) → Silent m written q p → Marked row' j p
    mark_marked p s = go x
      where
        flag : Set closures q p
        flag = closed.all q p state s

        go : Mark closures row j q row' → Marked row' j p
        go (Mark.old y e) = rw e (row_silent h (record { state = state; mark = y }) s)
        go (Mark.new a) =
            record {
              state = flag.second;
              mark = rw (at_cell a p flag.second) (either_first (get_or closures (flag_at_of q p) 0) (get_or row (place_of j p) 0) flag.flag);
            }

    -- what is marked was marked, or is in the closure of q
    pub mark_only : (i p : ℕ) → Marked row' i p → Marked row i p ⊎ ((i ≡ j) × Silent m written q p)
    mark_only i p k = go x (ℕ_discrete i j)
      where
        go : Mark closures row j q row' → Dec (i ≡ j) → Marked row i p ⊎ ((i ≡ j) × Silent m written q p)
        go (Mark.old y e) d = inl (rw e at k)
        go (Mark.new a) (no n) =
            inl (record { state = k.state; mark = rw (elsewhere a (place_of i p) (λ y. omega (arith, k.state)) (apart i p k.state n)) at k.mark })
        go (Mark.new a) (yes e) =
            ⊎_elim (λ (b : 0 < get_or closures (flag_at_of q p) 0). inr (e, closed.only q p (record { first = state; second = k.state; flag = b })))
            (λ (b : 0 < get_or row (place_of j p) 0). inl (rw e (record { state = k.state; mark = b })))
            (either_only (get_or closures (flag_at_of q p) 0) (get_or row (place_of j p) 0) (rw (e, at_cell a p k.state) at k.mark))

    -- a row is a row then
    pub mark_row : j ≤ length output → Row m written output row'
    mark_row inside =
        record {
          size = mark_length x ∙ h.size;
          said = λ i p k. ⊎_elim (λ (a : Marked row i p). kept_said i (h.said i p a)) (λ a. rw a.0 said) (mark_only i p k);
          inside = λ i p k. ⊎_elim (λ (a : Marked row i p). h.inside i p a) (λ a. rw a.0 inside) (mark_only i p k);
          whole = λ i p l s k e.
              ⊎_elim (λ (a : Marked row i p). mark_kept i s (h.whole i p l s a e)) (λ a. rw a.0 (mark_marked s (silent_more a.1 e))) (mark_only i p k);
        }
      where
        said_new : Mark closures row j q row' → 0 < get_or row' (cell_at j) 0
        said_new (Mark.old y e) = rw e (h.said j q (record { state = state; mark = y }))
        said_new (Mark.new a) = omega (arith, a.before (cell_at j) (omega arith), get_or-set_same row (cell_at j) 1 0 (omega (arith, h.size)))

        said : 0 < get_or row' (cell_at j) 0
        said = said_new x

        kept_said : (i : ℕ) → 0 < get_or row (cell_at i) 0 → 0 < get_or row' (cell_at i) 0
        kept_said i b = go x (ℕ_discrete i j)
          where
            go : Mark closures row j q row' → Dec (i ≡ j) → 0 < get_or row' (cell_at i) 0
            go y (yes e) = rw e said
            go (Mark.old y e) (no n) = rw e b
            go (Mark.new a) (no n) =
                let o : (cell_at i < place_of j 0) ⊎ (place_of j 0 + most_states ≤ cell_at i) =
                ⊎_elim (λ (c : i ≤ j). inl (omega arith)) (λ (c : j < i). inr (omega arith)) (le_or_lt i j) in
                rw (elsewhere a (cell_at i) (λ y. n (omega arith)) o) b
