-- The loop that begins a row with the start states. Assumes nothing.
use mathlib.Core.Path.{◌≡◌, refl, sym, ◌∙◌}
use mathlib.Core.Bool.{false, true≢false}
use mathlib.Core.List.{List}
use mathlib.Core.Logic.{⊎_elim}
use Prim.Native.Nat.{ℕ, ◌+◌, ◌≤◌, ◌<◌}
use native.Mathlib.Omega.{arith}
use borrow.Author.Count.{below_more}
use lib.ListN.{replicate, length-replicate}
use Rattle.transducer.specs.Limits.{most_states}
use Rattle.transducer.specs.StateSet.{has, In}
use Rattle.transducer.specs.declared.StateSet.{StateSet}
use Rattle.transducer.proofs.Facts.{in_below}
use Rattle.closure.specs.Closure.{Silent}
use Rattle.closure.proofs.FlagLaws.{fresh_clear}
use Rattle.wordrows.specs.Limits.{row_places}
use Rattle.wordrows.specs.Leads.{Lent}
use Rattle.wordrows.specs.Rows.{Marked, Row, Blank, From, Started}
use Rattle.wordrows.specs.Cells.{Mark}
use Rattle.wordrows.proofs.MarkLaws.{mark_marked, mark_kept, mark_only, mark_row}
use Rattle.wordrows.proofs.GrowLaws.{from_closure}
use Rattle.wordrows.proofs.SweepLaws.{unmarked, blank_row}

-- a fresh row has no mark
pub fresh_blank : Blank (replicate row_places 0)
fresh_blank = record { size = length-replicate {A = ℕ} row_places 0; clear = fresh_clear row_places }

module _ (m written output : List ℕ) (starts : StateSet) where
  -- a start state at the front of the output word
  abbrev pub First : ℕ → ℕ → Type 0
  First j q = (j ≡ 0) × In starts q

  -- the row begins with the states below q of the set
  pub record Starting (q : ℕ) (row : List ℕ) : Type 0 where
    pub rows : Row m written output row
    pub all : (p : ℕ) → p < q → In starts p → Marked row 0 p
    pub only : (j p : ℕ) → Marked row j p → From m written output First j p

module _ {m written output : List ℕ} {starts : StateSet} where
  pub starting_none : {row : List ℕ} → Blank row → Starting m written output starts 0 row
  starting_none b = record { rows = blank_row b; all = λ p h. absurd (omega arith); only = λ j p k. absurd (unmarked b k) }

  module _ {q : ℕ} {row : List ℕ} (h : Starting m written output starts q row) where
    pub starting_more : {closures row' : List ℕ} → Lent m written closures output → q < most_states → In starts q → Mark closures row 0 q row'
        → Starting m written output starts (q + 1) row'
    starting_more {row' = row'} c low is k =
        record {
          rows = mark_row k c.closed h.rows (omega arith) low (omega arith);
          all =
              below_more (λ p. In starts p → Marked row' 0 p) q
              (λ p b i. mark_kept k c.closed h.rows (omega arith) low 0 p (h.all p b i))
              (λ _. mark_marked k c.closed h.rows (omega arith) low q (Silent.stay refl));
          only = λ j p x.
              ⊎_elim (λ (a : Marked row j p). h.only j p a) (λ a. rw a.0 (from_closure (omega arith) (From.root (refl, is)) a.1))
              (mark_only k c.closed h.rows (omega arith) low j p x);
        }

    pub starting_skip : has starts q ≡ false → Starting m written output starts (q + 1) row
    starting_skip not =
        record {
          rows = h.rows;
          all = below_more (λ p. In starts p → Marked row 0 p) q h.all (λ i. absurd (true≢false (sym i ∙ not)));
          only = h.only;
        }

    pub starting_all : most_states ≤ q → Started m written output starts row
    starting_all high =
        record {
          rows = h.rows;
          all = λ j p a. rw a.0 (h.all p (omega (arith, in_below starts p a.1)) a.1);
          only = h.only;
        }
