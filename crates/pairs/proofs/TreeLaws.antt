-- What the three searches find: the useful pairs, from the start states, from the final states and back. Assumes nothing.
use mathlib.Core.Path.{◌≡◌, sym, ap, ◌∙◌, subst}
use mathlib.Core.List.{List}
use mathlib.Core.Logic.{◌↔◌}
use Prim.Native.Nat.{ℕ, ◌<◌}
use Rattle.worklist.specs.Lists.{Worklist, Found}
use Rattle.worklist.specs.Search.{Exact}
use Rattle.transducer.specs.Limits.{most_states}
use Rattle.transducer.specs.Valid.{Valid}
use Rattle.transducer.specs.Walks.{Step, both, left, right, input_of, Move}
use Rattle.transducer.specs.Reversal.{reversed_of}
use Rattle.transducer.specs.Useful.{UsefulPair}
use Rattle.transducer.specs.declared.Transducer.{Transducer}
use Rattle.transducer.proofs.WalkLaws.{useful_pair_between}
use Rattle.transducer.proofs.MoveLaws.{covers_reaches, covers_leaves}
use Rattle.transducer.proofs.ReversalLaws.{reversed_at, reversed_edge, reversed_valid}
use Rattle.product.specs.Numbers.{most_pairs, pair_of, first_of, second_of, step_of, Moves}
use Rattle.product.specs.Confined.{Allowed}
use Rattle.pairs.specs.Ways.{MovesBack, Tree}
use Rattle.product.proofs.LabelLaws.{pair_first, pair_second, pair_again}
use Rattle.pairs.proofs.UsefulLaws.{Begins, Goes, Leaving, Reached, start_reached, reached_step, final_leaving, leaving_step, reached_states, reached_low, found_reached, grown_map, covers}

-- ---- the reversed transducer: its walks from two start states are the walks to two final states, backwards

module _ (t : Transducer) where
  -- a turned transition reads the same
  same_input : (l : ℕ) → input_of (reversed_of t) l ≡ input_of t l
  same_input l = ap (λ v. v.input.0) (reversed_at t l)

  -- its moves lead the other way
  pub move_turned : (p q p' q' : ℕ) (e : Step) → Move t p q e p' q' → Move (reversed_of t) p' q' e p q
  move_turned p q p' q' (both l m) h = (
    (reversed_edge t).1 h.0,
    (reversed_edge t).1 h.1,
    (same_input l ∙ h.2.0 ∙ sym (same_input m), λ z. h.2.1 (sym (same_input l) ∙ z)),
  )
  move_turned p q p' q' (left l) h = ((reversed_edge t).1 h.0, sym h.1, same_input l ∙ h.2)
  move_turned p q p' q' (right m) h = (sym h.0, (reversed_edge t).1 h.1, same_input m ∙ h.2)

  pub turned_move : (p q p' q' : ℕ) (e : Step) → Move (reversed_of t) p q e p' q' → Move t p' q' e p q
  turned_move p q p' q' (both l m) h = (
    (reversed_edge t).0 h.0,
    (reversed_edge t).0 h.1,
    (sym (same_input l) ∙ h.2.0 ∙ same_input m, λ z. h.2.1 (same_input l ∙ z)),
  )
  turned_move p q p' q' (left l) h = ((reversed_edge t).0 h.0, sym h.1, sym (same_input l) ∙ h.2)
  turned_move p q p' q' (right m) h = (sym h.0, (reversed_edge t).0 h.1, sym (same_input m) ∙ h.2)

  -- a pair that leads on is reached over the reversed transducer, and back
  leaving_reached : {p q : ℕ} → Leaving t p q → Reached (reversed_of t) p q
  unfolding reversed_of
  leaving_reached r =
      covers_leaves (Reached (reversed_of t)) (λ p q p' q' e h. reached_step p' q' p q e (move_turned p q p' q' e h)) start_reached r.leaves

  reached_leaving : {p q : ℕ} → Reached (reversed_of t) p q → Leaving t p q
  unfolding reversed_of
  reached_leaving r =
      covers_reaches (Leaving t) (λ p q p' q' e h. leaving_step p' q' p q e (turned_move p q p' q' e h)) final_leaving r.reaches

-- ---- the three searches

-- a useful pair is reached and leads on
is_reached : {t : Transducer} {p q : ℕ} → UsefulPair t p q → Reached t p q
is_reached u = let b = useful_pair_between.0 u in record { steps = b.into; reaches = b.reaches }

leads_on : {t : Transducer} {p q : ℕ} → UsefulPair t p q → Leaving t p q
leads_on u = let b = useful_pair_between.0 u in record { steps = b.out; leaves = b.leaves }

-- its states are below `most_states`
pub useful_low : {t : Transducer} → Valid t → {p q : ℕ} → UsefulPair t p q → (p < most_states) × (q < most_states)
useful_low valid u = reached_low valid (is_reached u)

-- a pair that is reached and leads on is useful
between : {t : Transducer} {p q : ℕ} → Reached t p q → Leaving t p q → UsefulPair t p q
between r l = useful_pair_between.1 (record { into = r.steps; out = l.steps; reaches = r.reaches; leaves = l.leaves })

module _ {t : Transducer} (valid : Valid t) {all : List ℕ} {s₁ s₂ : Worklist}
    (every : (p q : ℕ) → p < t.states → q < t.states → Allowed all (pair_of p q))
    (x₁ : Exact (Begins t.starts all) (Goes t all) most_pairs s₁)
    (x₂ : Exact (Begins (reversed_of t).starts s₁.rank) (Goes (reversed_of t) s₁.rank) most_pairs s₂)
  where
    -- a pair that is reached is allowed
    reached_allowed : (p q : ℕ) → Reached t p q → Allowed all (pair_of p q)
    reached_allowed p q r = let s = reached_states valid r in every p q s.0 s.1

    -- the first search finds each pair that is reached
    reached_found : (p q : ℕ) → Reached t p q → Found s₁ (pair_of p q)
    reached_found p q r = covers x₁ valid (λ p q p' q' e h r i. reached_allowed p q r) r (reached_allowed p q r)

    -- and nothing else
    found_is_reached : (p q : ℕ) → q < most_states → Found s₁ (pair_of p q) → Reached t p q
    found_is_reached p q low f = rw (pair_first p q low, pair_second p q low) at (found_reached x₁ (pair_of p q) f).0

    -- the second finds each of these that leads on
    leaving_found : (p q : ℕ) → Leaving t p q → Found s₁ (pair_of p q) → Found s₂ (pair_of p q)
    leaving_found p q l =
        covers x₂ turned
        (λ p q p' q' e h r i.
        let low = reached_low turned (reached_step p q p' q' e h r) in
        reached_found p q (reached_step p' q' p q e (turned_move t p q p' q' e h) (found_is_reached p' q' low.1 i)))
        (leaving_reached t l)
      where
        turned : Valid (reversed_of t)
        turned = reversed_valid t valid

    -- together exactly the useful pairs, each by a step to a pair found before it, or with no step where both states are final
    pub tree_out : Tree t t.finals (MovesBack t) s₂
    unfolding reversed_of
    tree_out =
        record {
          grown =
              grown_map (λ v b. b.start_pair)
              (λ u k v g.
              record { leads = turned_move t (first_of u) (second_of u) (first_of v) (second_of v) (step_of k) g.moves; no_end = g.later })
              x₂.grown;
          found = λ v. (
            λ f. let r = found_reached x₂ v f in between (found_reached x₁ v r.1).0 (reached_leaving t r.0),
            λ u. subst (Found s₂) (pair_again v) (leaving_found _ _ (leads_on u) (reached_found _ _ (is_reached u))),
          );
        }

module _ {t : Transducer} (valid : Valid t) {allowed : List ℕ} {s : Worklist} (exactly : (v : ℕ) → Allowed allowed v ↔ UsefulPair t (first_of v) (second_of v))
    (x : Exact (Begins t.starts allowed) (Goes t allowed) most_pairs s)
  where
    -- the third, confined to the useful pairs, finds them all again, each by a step from a pair found before it, or with no step where both are start states
    pub tree_in : Tree t t.starts (Moves t) s
    tree_in =
        record {
          grown = grown_map (λ v b. b.start_pair) (λ u k v g. record { leads = g.moves; no_end = g.later }) x.grown;
          found = λ v. (
            λ f. (exactly v).0 (found_reached x v f).1,
            λ u. subst (Found s) (pair_again v) (covers x valid back (is_reached u) (subst (Allowed allowed) (sym (pair_again v)) ((exactly v).1 u))),
          );
        }
      where
        -- a pair that is reached and from which a step leads to a useful pair is useful
        back : (p q p' q' : ℕ) (e : Step) → Move t p q e p' q' → Reached t p q → Allowed allowed (pair_of p' q') → Allowed allowed (pair_of p q)
        back p q p' q' e h r i =
            let low = (reached_low valid r).1 in
            let low' = (reached_low valid (reached_step p q p' q' e h r)).1 in
            let u = rw (pair_first p' q' low', pair_second p' q' low') at ((exactly (pair_of p' q')).0 i) in
            (exactly (pair_of p q)).1 (rw (pair_first p q low, pair_second p q low) (between r (leaving_step p q p' q' e h (leads_on u))))
