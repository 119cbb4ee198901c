-- How the loops over the transitions of a state, the states of a cell, and the cells of a row begin, go on and end. Assumes nothing.
use mathlib.Core.Path.{◌≡◌, subst}
use mathlib.Core.List.{List}
use mathlib.Core.Logic.{⊎_elim}
use Prim.Native.Nat.{ℕ, ◌+◌, ◌≤◌, ◌<◌}
use native.Mathlib.Decide.{dec_lt}
use native.Mathlib.Omega.{arith}
use borrow.Author.Count.{below_more}
use lib.ListN.{length, get_or}
use Rattle.transducer.specs.Limits.{most_states}
use Rattle.product.specs.Machine.{Leaves, Follows}
use Rattle.product.specs.Numbers.{no_transition}
use Rattle.wordrows.specs.Leads.{Ground, Lent, Leads}
use Rattle.wordrows.specs.Rows.{cell_at, place_of, Marked, Row, Blank, From, Swept}
use Rattle.wordrows.specs.Cells.{Grows, Done, Closed, Goes, Ready, Followed, Expanded, Filled}
use Rattle.wordrows.proofs.GrowLaws.{from_join, grows_none, grows_both, done_kept, goes_none, goes_both}

-- what rows are made of is right, said of the same lists
pub ground_right : {g h : Ground} → g ≡ h → Lent g.m g.written g.closures g.output → Lent h.m h.written h.closures h.output
ground_right e lent = subst (λ (g : Ground). Lent g.m g.written g.closures g.output) e lent

module _ (m written output : List ℕ) (code : ℕ) where
  -- the transitions below l are done, from the state q at the position j
  pub record Expanding (j q l : ℕ) (here next here' next' : List ℕ) : Type 0 where
    pub goes : Goes m written output code j here next here' next'
    pub done : Done m written output code j q l here' next'

  -- the cells below j are done
  pub record Sweeping (j : ℕ) (here next here' next' : List ℕ) : Type 0 where
    pub grows : Grows m written output code here next here' next'
    pub closed : (i : ℕ) → i < j → (q : ℕ) → Marked here' i q → Closed m written output code i q here' next'

-- a row without a mark has none, and is a row
pub unmarked : {row : List ℕ} {j q : ℕ} → Blank row → Marked row j q → ⊥
unmarked {j = j} {q} b k = omega (arith, k.mark, b.clear (place_of j q))

pub blank_row : {m written output row : List ℕ} → Blank row → Row m written output row
blank_row b =
    record {
      size = b.size;
      said = λ j q k. absurd (unmarked b k);
      inside = λ j q k. absurd (unmarked b k);
      whole = λ j q l p k. absurd (unmarked b k);
    }

module _ {m written output : List ℕ} {code : ℕ} where
  -- ---- the transitions of a state

  -- transitions that leave another state lead nowhere from q
  skipped : {j q low high : ℕ} {here next : List ℕ} → Follows m q low high → Done m written output code j q low here next
      → Done m written output code j q high here next
  skipped {q = q} {low} {high} f h =
      record {
        silent = λ l k p b e. go l (dec_lt l low) (λ a. h.silent l k p a e) b e.leaves;
        reading = λ l k p b e. go l (dec_lt l low) (λ a. h.reading l k p a e) b e.leaves;
      }
    where
      go : {A : Type 0} (l : ℕ) → Dec (l < low) → (l < low → A) → l < high → Leaves m l q → A
      go l (yes a) is b e = is a
      go l (no a) is b e = absurd (f.least l (omega (arith, a)) b e)

  module _ {j q : ℕ} {here next : List ℕ} where
    pub expanding_none : {closures : List ℕ} {l : ℕ} → Ready m written output closures code j here next → Follows m q 0 l
        → Expanding m written output code j q l here next here next
    expanding_none r f =
        record {
          goes = goes_none r;
          done = skipped f (record { silent = λ l k p b e. absurd (omega arith); reading = λ l k p b e. absurd (omega arith) });
        }

    module _ {l : ℕ} {here' next' : List ℕ} (x : Expanding m written output code j q l here next here' next') where
      pub expanding_more : {low : ℕ} {here'' next'' : List ℕ} → Followed m written output code j l here' next' here'' next'' → Follows m q (l + 1) low
          → Expanding m written output code j q low here next here'' next''
      expanding_more {here'' = here''} {next''} y f =
          let kept = done_kept y.goes.grows x.done in
          record {
            goes = goes_both x.goes y.goes;
            done =
                skipped f
                (record {
                  silent = λ i k p b e.
                      below_more (λ i. Leads m written output 0 j q i k p → Marked here'' k p) l (λ i a. kept.silent i k p a) (y.silent q k p) i b e;
                  reading = λ i k p b e.
                      below_more (λ i. Leads m written output code j q i k p → Marked next'' k p) l (λ i a. kept.reading i k p a) (y.reading q k p) i b e;
                });
          }

      pub expanding_all : no_transition ≤ l → Expanded m written output code j q here next here' next'
      expanding_all h =
          record {
            goes = x.goes;
            closed =
                record {
                  silent = λ i k p b e. x.done.silent i k p (omega arith) e;
                  reading = λ i k p b e. x.done.reading i k p (omega arith) e;
                };
          }

  -- ---- the states of a cell

  module _ {j : ℕ} {here next : List ℕ} where
    pub filled_none : {closures : List ℕ} → Ready m written output closures code j here next → Filled m written output code j 0 here next here next
    filled_none r = record { goes = goes_none r; closed = λ q b. absurd (omega arith) }

    module _ {n : ℕ} {here' next' : List ℕ} (x : Filled m written output code j n here next here' next') where
      -- a state is done
      pub filled_more : {here'' next'' : List ℕ} → Expanded m written output code j n here' next' here'' next''
          → Filled m written output code j (n + 1) here next here'' next''
      filled_more {here''} {next''} y =
          record {
            goes = goes_both x.goes y.goes;
            closed =
                below_more (λ q. Marked here'' j q → Closed m written output code j q here'' next'') n
                (λ q b k. done_kept y.goes.grows (x.closed q b (y.goes.below j q (omega arith) k)))
                (λ _. y.closed);
          }

      -- a state that is not marked is done
      pub filled_skip : get_or here' (place_of j n) 0 ≡ 0 → Filled m written output code j (n + 1) here next here' next'
      filled_skip z =
          record {
            goes = x.goes;
            closed = below_more (λ q. Marked here' j q → Closed m written output code j q here' next') n x.closed (λ k. absurd (omega (arith, k.mark, z)));
          }

  -- ---- the cells of a row

  module _ {here next : List ℕ} where
    pub sweeping_none : Row m written output here → Blank next → Sweeping m written output code 0 here next here next
    sweeping_none a b = record { grows = grows_none a (blank_row b); closed = λ i h. absurd (omega arith) }

    module _ {j : ℕ} {here' next' : List ℕ} (x : Sweeping m written output code j here next here' next') where
      -- a cell is done
      pub sweeping_more : {here'' next'' : List ℕ} → Filled m written output code j most_states here' next' here'' next''
          → Sweeping m written output code (j + 1) here next here'' next''
      sweeping_more {here''} {next''} y =
          record {
            grows = grows_both x.grows y.goes.grows;
            closed =
                below_more (λ i. (q : ℕ) → Marked here'' i q → Closed m written output code i q here'' next'') j
                (λ i a q k. done_kept y.goes.grows (x.closed i a q (y.goes.below i q (omega arith) k)))
                (λ q k. y.closed q k.state k);
          }

      -- a cell that says that it has no mark is done
      pub sweeping_skip : get_or here' (cell_at j) 0 ≡ 0 → Sweeping m written output code (j + 1) here next here' next'
      sweeping_skip z =
          record {
            grows = x.grows;
            closed =
                below_more (λ i. (q : ℕ) → Marked here' i q → Closed m written output code i q here' next') j x.closed
                (λ q k. absurd (let s = x.grows.row.said j q k in omega arith));
          }

      pub sweeping_all : {closures : List ℕ} → Lent m written closures output → length output < j → Blank next → Swept m written output code here here' next'
      sweeping_all lent h b =
          record {
            row = x.grows.row;
            reached = λ i q. (x.grows.reached i q, λ r. all r);
            next =
                record {
                  rows = x.grows.row_next;
                  all = λ i q e. (done (all e.reached)).reading e.l i q (low e.leads) e.leads;
                  only = λ i q k.
                      from_join (λ i q. ⊎_elim (λ (a : Marked next i q). absurd (unmarked b a)) (λ a. From.root a)) (x.grows.entered i q k);
                };
          }
        where
          done : {i q : ℕ} → Marked here' i q → Closed m written output code i q here' next'
          done {i} {q} k = x.closed i (omega (arith, x.grows.row.inside i q k)) q k

          low : {key i q l k p : ℕ} → Leads m written output key i q l k p → l < no_transition
          low e = omega (arith, e.leaves.used, lent.machine.few)

          all : {i q : ℕ} → From m written output (Marked here) i q → Marked here' i q
          all (From.root k) = x.grows.kept _ _ k
          all (From.silent {k = k} {p = p} r e) = (done (all r)).silent _ k p (low e) e
