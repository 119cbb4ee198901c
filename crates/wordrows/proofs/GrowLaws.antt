-- Rows that grow: what is reached from what is reached is reached; and what the marks that a transition makes add. Assumes nothing.
use mathlib.Core.Path.{◌≡◌, refl}
use mathlib.Core.List.{List}
use mathlib.Core.Logic.{◌≢◌, ◌⊎◌, inl, inr, ⊎_elim}
use Prim.Native.Nat.{ℕ, ◌+◌, ◌≤◌, ◌<◌}
use native.Mathlib.Omega.{arith}
use lib.ListN.{length}
use Rattle.transducer.specs.Limits.{most_states}
use Rattle.transducer.specs.Transition.{firsts}
use Rattle.product.specs.Machine.{count_of, from_of, to_of, key_of}
use Rattle.outputs.specs.Outputs.{count_at, codes_at, HeldAt}
use Rattle.outputs.proofs.OutputLaws.{length_codes}
use Rattle.closure.specs.Closure.{Empty, Silent}
use Rattle.wordrows.specs.Limits.{most_output}
use Rattle.wordrows.specs.Leads.{Leads}
use Rattle.wordrows.specs.Rows.{Marked, Row, From, Entered}
use Rattle.wordrows.specs.Cells.{Grows, Done, Goes, Ready, Put, Followed}
use Rattle.wordrows.proofs.MarkLaws.{mark_kept, mark_marked, mark_only, mark_row}

module _ {m written output : List ℕ} where
  -- ---- what is reached

  -- what is reached from what is reached is reached
  pub from_join : {P Q : ℕ → ℕ → Type 0} → ((j q : ℕ) → P j q → From m written output Q j q) → {j q : ℕ} → From m written output P j q
      → From m written output Q j q
  from_join h (From.root k) = h _ _ k
  from_join h (From.silent r e) = From.silent (from_join h r) e

  -- a transition that reads and writes nothing leads on in its cell
  empty_leads : {j q l p : ℕ} → j ≤ length output → Empty m written q l p → Leads m written output 0 j q l j p
  unfolding firsts
  empty_leads {j} {q} {l} inside x =
      record {
        leaves = x.leaves;
        key = x.key;
        enters = x.enters;
        position = omega (arith, x.count);
        writes = rw x.count (record { within = omega arith; is = refl });
      }

  pub from_closure : {P : ℕ → ℕ → Type 0} {j q p : ℕ} → j ≤ length output → From m written output P j q → Silent m written q p → From m written output P j p
  from_closure inside r (Silent.stay e) = rw (← e) r
  from_closure inside r (Silent.step x s) = from_closure inside (From.silent r (empty_leads inside x)) s

  -- ---- growing is a preorder

  pub grows_none : {code : ℕ} {here next : List ℕ} → Row m written output here → Row m written output next → Grows m written output code here next here next
  grows_none a b =
      record {
        row = a;
        row_next = b;
        kept = λ j q k. k;
        kept_next = λ j q k. k;
        reached = λ j q k. From.root k;
        entered = λ j q k. From.root (inl k);
      }

  entered_join : {code : ℕ} {here here' : List ℕ} → ((j q : ℕ) → Marked here' j q → From m written output (Marked here) j q) → {j q : ℕ}
      → Entered m written output here' code j q → Entered m written output here code j q
  entered_join h e = record { j = e.j; q = e.q; l = e.l; reached = from_join h e.reached; leads = e.leads }

  pub grows_both : {code : ℕ} {a b c d e f : List ℕ} → Grows m written output code a b c d → Grows m written output code c d e f
      → Grows m written output code a b e f
  grows_both x y =
      record {
        row = y.row;
        row_next = y.row_next;
        kept = λ j q k. y.kept j q (x.kept j q k);
        kept_next = λ j q k. y.kept_next j q (x.kept_next j q k);
        reached = λ j q k. from_join x.reached (y.reached j q k);
        entered = λ j q k. from_join (λ i p. ⊎_elim (x.entered i p) (λ s. From.root (inr (entered_join x.reached s)))) (y.entered j q k);
      }

  -- what is done stays done
  pub done_kept : {code j q low : ℕ} {a b c d : List ℕ} → Grows m written output code a b c d → Done m written output code j q low a b
      → Done m written output code j q low c d
  done_kept g h =
      record {
        silent = λ l k p b e. g.kept k p (h.silent l k p b e);
        reading = λ l k p b e. g.kept_next k p (h.reading l k p b e);
      }

  module _ {closures : List ℕ} {code j : ℕ} where
    pub goes_none : {here next : List ℕ} → Ready m written output closures code j here next → Goes m written output code j here next here next
    goes_none h = record { grows = grows_none h.row h.row_next; below = λ i q b k. k }

    -- what going on relies on is there then
    pub ready_then : {a b c d : List ℕ} → Ready m written output closures code j a b → Goes m written output code j a b c d
        → Ready m written output closures code j c d
    ready_then h g = record { lent = h.lent; some = h.some; inside = h.inside; row = g.grows.row; row_next = g.grows.row_next }

    -- ---- one transition, from a state of the cell that is marked

    module _ {l : ℕ} {here next : List ℕ} (ready : Ready m written output closures code j here next) (used : l < count_of m)
        (from : Marked here j (from_of m l)) where
      state : to_of m l < most_states
      state = ready.lent.machine.to_state l used

      inside : HeldAt output j (codes_at written l) → j + count_at written l ≤ length output
      inside w = omega (arith, w.within, length_codes written l)

      low : HeldAt output j (codes_at written l) → j + count_at written l ≤ most_output
      low w = omega (arith, inside w, ready.lent.short)

      -- what it writes stands there: it leads on
      leads : (key : ℕ) → key_of m l ≡ key → HeldAt output j (codes_at written l)
          → Leads m written output key j (from_of m l) l (j + count_at written l) (to_of m l)
      leads key e w = record { leaves = record { used = used; source = refl }; key = e; enters = refl; position = refl; writes = w }

      -- a mark in the row
      goes_here : {here' : List ℕ} → key_of m l ≡ 0 → count_at written l ≢ 0 → Put m written output closures j l here here'
          → Goes m written output code j here next here' next
      goes_here e n (Put.passed w s) = rw s (goes_none ready)
      goes_here {here'} e n (Put.put w k) =
          let c = ready.lent in
          record {
            grows =
                record {
                  row = mark_row k c.closed ready.row (low w) state (inside w);
                  row_next = ready.row_next;
                  kept = mark_kept k c.closed ready.row (low w) state;
                  kept_next = λ i q h. h;
                  reached = λ i q h.
                      ⊎_elim (λ (a : Marked here i q). From.root a)
                      (λ a. rw a.0 (from_closure (inside w) (From.silent (From.root from) (leads 0 e w)) a.1))
                      (only i q h);
                  entered = λ i q h. From.root (inl h);
                };
            below = λ i q b h. ⊎_elim (λ (a : Marked here i q). a) (λ a. absurd (omega (arith, a.0, n))) (only i q h);
          }
        where
          only : (i q : ℕ) → Marked here' i q → Marked here i q ⊎ ((i ≡ j + count_at written l) × Silent m written (to_of m l) q)
          only = let c = ready.lent in mark_only k c.closed ready.row (low w) state

      -- a mark in the next row
      goes_next : {next' : List ℕ} → key_of m l ≡ code → Put m written output closures j l next next'
          → Goes m written output code j here next here next'
      goes_next e (Put.passed w s) = rw s (goes_none ready)
      goes_next e (Put.put w k) =
          let c = ready.lent in
          record {
            grows =
                record {
                  row = ready.row;
                  row_next = mark_row k c.closed ready.row_next (low w) state (inside w);
                  kept = λ i q h. h;
                  kept_next = mark_kept k c.closed ready.row_next (low w) state;
                  reached = λ i q h. From.root h;
                  entered = λ i q h.
                      ⊎_elim (λ (a : Marked next i q). From.root (inl a))
                      (λ a.
                      rw a.0
                      (from_closure (inside w)
                      (From.root (inr (record { j = j; q = from_of m l; l = l; reached = From.root from; leads = leads code e w })))
                      a.1))
                      (mark_only k c.closed ready.row_next (low w) state i q h);
                };
            below = λ i q b h. h;
          }

      -- where l leads is marked
      led : {row row' : List ℕ} {key q k p : ℕ} → Row m written output row → Put m written output closures j l row row'
          → Leads m written output key j q l k p → Marked row' k p
      led h (Put.passed w s) e = absurd (w e.writes)
      led h (Put.put w x) e =
          let c = ready.lent in
          rw (e.position, ← e.enters) (mark_marked x c.closed h (low w) state (to_of m l) (Silent.stay refl))

      -- one that reads the code
      pub followed_next : {next' : List ℕ} → key_of m l ≡ code → Put m written output closures j l next next'
          → Followed m written output code j l here next here next'
      followed_next e x =
          record {
            goes = goes_next e x;
            silent = λ q k p s. absurd (omega (arith, s.key, e, ready.some));
            reading = λ q k p s. led ready.row_next x s;
          }

      -- one that reads nothing
      pub followed_here : {here' : List ℕ} → key_of m l ≡ 0 → count_at written l ≢ 0 → Put m written output closures j l here here'
          → Followed m written output code j l here next here' next
      followed_here e n x =
          record {
            goes = goes_here e n x;
            silent = λ q k p s. led ready.row x s;
            reading = λ q k p s. absurd (omega (arith, s.key, e, ready.some));
          }

      -- one that reads and writes nothing
      pub followed_empty : key_of m l ≡ 0 → count_at written l ≡ 0 → Followed m written output code j l here next here next
      followed_empty e z =
          record {
            goes = goes_none ready;
            silent = λ q k p s.
                let same : k ≡ j = omega (arith, s.position, z) in
                let x : Empty m written (from_of m l) l p =
                record { leaves = record { used = used; source = refl }; key = e; count = z; enters = s.enters } in
                rw same (ready.row.whole j (from_of m l) l p from x);
            reading = λ q k p s. absurd (omega (arith, s.key, e, ready.some));
          }

      -- one that reads another
      pub followed_none : key_of m l ≢ 0 → key_of m l ≢ code → Followed m written output code j l here next here next
      followed_none a b =
          record { goes = goes_none ready; silent = λ q k p s. absurd (a s.key); reading = λ q k p s. absurd (b s.key) }

  pub goes_both : {code j : ℕ} {a b c d e f : List ℕ} → Goes m written output code j a b c d → Goes m written output code j c d e f
      → Goes m written output code j a b e f
  goes_both x y = record { grows = grows_both x.grows y.grows; below = λ i q b k. x.below i q b (y.below i q b k) }
