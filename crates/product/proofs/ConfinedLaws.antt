-- Laws of the confined search: how the loops over the pairs and over the labels go on when a node is offered. A node that is not allowed is
-- passed; one at which the search begins is found already. Assumes nothing.
use mathlib.Core.Path.{◌≡◌, refl, sym, ap, ◌∙◌, subst}
use mathlib.Core.Bool.{Bool, true, false, true≢false, ◌&&◌, cond}
use mathlib.Core.List.{List}
use Prim.Native.Nat.{ℕ, ◌+◌, ◌≤◌, ◌<◌}
use native.Mathlib.Decide.{dec_lt}
use native.Mathlib.Omega.{arith}
use borrow.Author.Tests.{ne_eqb, eqb-true, eqb-false, lt-ltb}
use lib.Dec.{eqb, ltb}
use lib.ListN.{get_or}
use Rattle.worklist.specs.Lists.{Worklist, Found, non_zeros, added, visited}
use Rattle.worklist.specs.Search.{Rooted, Scanned, Expanded, Working, Exact}
use Rattle.worklist.proofs.Findings.{exact}
use Rattle.worklist.proofs.AllFound.{all_found, found_within, working_all}
use Rattle.worklist.proofs.Stages.{rooted_skip, rooted_visit, scanned_skip, scanned_visit, scanned_join, expanded}
use Rattle.transducer.proofs.Bools.{and_both}
use Rattle.transducer.proofs.Facts.{in_below}
use Rattle.transducer.specs.StateSet.{has}
use Rattle.transducer.specs.declared.StateSet.{StateSet}
use Rattle.product.specs.Numbers.{most_pairs, first_of, second_of, label_of, PairIn}
use Rattle.product.specs.Steps.{past_last, RowFrom, Steps, target_of, Past}
use Rattle.product.specs.Confined.{Allowed, offered, Begins, Goes, Ready}
use Rattle.product.proofs.TargetLaws.{target_low}
use Rattle.product.proofs.StepLaws.{past_row_after, past_last_row}

-- two tests that hold do not fail together
pub not_both : {a b : Bool} → a ≡ true → b ≡ true → (a && b) ≡ false → ⊥
not_both p q r = let e = and_both p q in let z : ◌≡◌ {A = ℕ} 0 1 = cc in omega arith

-- whether the states of a pair are in two sets is decided
pub pair_in_lem : (s s' : StateSet) (v : ℕ) → Dec (PairIn s s' v)
pair_in_lem s s' v = go (has s (first_of v)) (has s' (second_of v)) refl refl
  where
    go : (a b : Bool) → has s (first_of v) ≡ a → has s' (second_of v) ≡ b → Dec (PairIn s s' v)
    go true true e d = yes (record { first = e; second = d })
    go true false e d = no (λ p. true≢false (sym p.second ∙ d))
    go false b e d = no (λ p. true≢false (sym p.first ∙ e))

-- in the loops over the steps of the pair at the place `head`: those with a label from `low` on and below `label` lead to pairs found
abbrev pub Scan : StateSet → StateSet → List ℕ → List ℕ → List ℕ → Worklist → Worklist → ℕ → ℕ → ℕ → Type 0
Scan starts starts' allowed left right s₀ s head low label =
    Scanned (Begins starts starts' allowed) (Goes starts starts' allowed left right) most_pairs s₀ s head low label

module _ {starts starts' : StateSet} {allowed : List ℕ} where
  -- the search begins at pairs
  pub begins_low : {v : ℕ} → Begins starts starts' allowed v → v < most_pairs
  begins_low b = omega (arith, in_below _ _ b.start_pair.first)

  -- the loop over the pairs offers a pair of start states
  pub rooted_offer : {s s' : Worklist} {node : ℕ} → Rooted (Begins starts starts' allowed) most_pairs s node → node < most_pairs
      → PairIn starts starts' node → s' ≡ offered allowed s node 0 0 → Rooted (Begins starts starts' allowed) most_pairs s' (node + 1)
  rooted_offer {s} {s'} {node} r h p e = go (eqb (get_or allowed node 0) 0) refl e
    where
      go : (b : Bool) → eqb (get_or allowed node 0) 0 ≡ b → s' ≡ cond b s (visited s node 0 0)
          → Rooted (Begins starts starts' allowed) most_pairs s' (node + 1)
      go true d e = rw e (rooted_skip r (λ z. omega (arith, z.inside, eqb-true (get_or allowed node 0) 0 d)))
      go false d e = rooted_visit 0 r h (record { start_pair = p; inside = omega (arith, eqb-false (get_or allowed node 0) 0 d) }) e

  module _ {left right : List ℕ} where
    -- it passes labels that no step has
    pub scanned_past : {s₀ s : Worklist} {head low label high : ℕ} → Scan starts starts' allowed left right s₀ s head low label
        → Past left right (get_or s₀.order head 0) label high → Scan starts starts' allowed left right s₀ s head low high
    scanned_past x p = scanned_skip x (λ k v a b g. p.none k a b g.steps)

    -- in the loops the search is ready still
    pub ready_still : {s₀ s : Worklist} {head low label : ℕ} → Ready starts starts' allowed left right s₀ head
        → Scan starts starts' allowed left right s₀ s head low label → Ready starts starts' allowed left right s head
    ready_still r x =
        record {
          lent = r.lent;
          grown = x.grown;
          roots = λ v b. x.extends.found v (r.roots v b);
          place = omega (arith, r.place, x.extends.count);
        }

    -- the loop over the rows goes on, where that over the steps of the row has ended
    pub scanned_row : {s₀ s s' : Worklist} {head row' : ℕ} (row : ℕ) → Ready starts starts' allowed left right s₀ head
        → Scan starts starts' allowed left right s₀ s head 0 (label_of row 0)
        → Scan starts starts' allowed left right s s' head (label_of row 0) (label_of row past_last)
        → RowFrom left (get_or s₀.order head 0) (row + 1) row'
        → Scan starts starts' allowed left right s₀ s' head 0 (label_of row' 0)
    scanned_row row r x y f =
        scanned_past (scanned_join r.place x y)
        (past_row_after r.lent.left_machine r.lent.right_machine row past_last (omega arith) (omega arith) f)

    -- it ends
    pub scanned_all : {s₀ s : Worklist} {head row : ℕ} → Ready starts starts' allowed left right s₀ head
        → Scan starts starts' allowed left right s₀ s head 0 (label_of row 0) → past_last ≤ row
        → Expanded (Begins starts starts' allowed) (Goes starts starts' allowed left right) most_pairs s₀ s head
    scanned_all r x h = expanded x (λ l v g. past_last_row r.lent.left_machine r.lent.right_machine h g.steps)

    -- the loop over the places ends, where none is left or all allowed pairs are found
    pub search_ends : {s : Worklist} {head most : ℕ} → Working (Begins starts starts' allowed) (Goes starts starts' allowed left right) most_pairs s head
        → most ≡ non_zeros allowed → (ltb head s.count && ltb s.count most) ≡ false
        → Exact (Begins starts starts' allowed) (Goes starts starts' allowed left right) most_pairs s
    search_ends {s} {head} {most} w e t = go (dec_lt head s.count) (dec_lt s.count most)
      where
        go : Dec (head < s.count) → Dec (s.count < most) → Exact (Begins starts starts' allowed) (Goes starts starts' allowed left right) most_pairs s
        go (yes a) (yes b) = absurd (not_both (lt-ltb _ _ a) (lt-ltb _ _ b) t)
        go (yes a) (no b) =
            let within = found_within allowed w.grown (λ v b. b.inside) (λ u l v g. g.inside) in
            let all = all_found allowed w.grown within (omega arith) in
            exact (working_all w (λ u l v g. all v g.inside)) (omega arith)
        go (no a) _ = exact w (omega arith)

    module _ {s₀ s : Worklist} {head low label : ℕ} (r : Ready starts starts' allowed left right s₀ head) (x : Scan starts starts' allowed left right s₀ s head low label) where
      -- it passes a step that leads to a node that is found
      scanned_found : {node : ℕ} → target_of left right (get_or s₀.order head 0) label ≡ node → Found s node → Scan starts starts' allowed left right s₀ s head low (label + 1)
      scanned_found {node} t f =
          record { grown = x.grown; extends = x.extends; done = λ l v hl hh g. go l v hl hh g (dec_lt l label) }
        where
          go : (l v : ℕ) → low ≤ l → l < label + 1 → Goes starts starts' allowed left right (get_or s₀.order head 0) l v → Dec (l < label) → Found s v
          go l v hl hh g (yes b) = x.done l v hl b g
          go l v hl hh g (no b) =
              let same : l ≡ label = omega arith in
              subst (Found s) (ap_target same g.target) f
            where
              ap_target : l ≡ label → target_of left right (get_or s₀.order head 0) l ≡ v → node ≡ v
              ap_target same e = rw (← t, ← same) e

      -- it offers the node to which the step leads
      pub scanned_offer : {s' : Worklist} {node k : ℕ} → Steps left right (get_or s₀.order head 0) label
          → target_of left right (get_or s₀.order head 0) label ≡ node → k ≡ label
          → s' ≡ offered allowed s node (head + 1) k → Scan starts starts' allowed left right s₀ s' head low (label + 1)
      scanned_offer {s'} {node} step t q e =
          go (eqb (get_or allowed node 0) 0) refl (e ∙ ap (offered allowed s node (head + 1)) q) (dec_lt 0 (get_or s.rank node 0))
        where
          inside_pairs : node < most_pairs
          inside_pairs = rw t at (target_low r.lent.left_machine r.lent.right_machine (r.grown.below head r.place) step)

          only : (v : ℕ) → Goes starts starts' allowed left right (get_or s₀.order head 0) label v → node ≡ v
          only v g = rw t at g.target

          go : (b : Bool) → eqb (get_or allowed node 0) 0 ≡ b → s' ≡ cond b s (visited s node (head + 1) label) → Dec (Found s node)
              → Scan starts starts' allowed left right s₀ s' head low (label + 1)
          go true d e _ =
              rw e
              (scanned_skip x
              (λ l v hl hh g.
              let same : l ≡ label = omega arith in
              omega (arith, ap (λ n. get_or allowed n 0) (only v (rw same at g)), g.inside, eqb-true (get_or allowed node 0) 0 d)))
          go false d e (yes f) =
              rw (e ∙ ap (λ b. cond b (added s node (head + 1) label) s) (ne_eqb (get_or s.rank node 0) 0 (λ z. omega arith))) (scanned_found t f)
          go false d e (no f) =
              let inside : Allowed allowed node = omega (arith, eqb-false (get_or allowed node 0) 0 d) in
              scanned_visit x refl r.place inside_pairs
              (record {
                steps = step;
                target = t;
                inside = inside;
                later = λ p. f (x.extends.found node (r.roots node (record { start_pair = p; inside = inside })));
              })
              only e
