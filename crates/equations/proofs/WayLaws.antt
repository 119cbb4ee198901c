-- The ways into and out of the useful pairs, as walks of the transducer. Assumes nothing.
use mathlib.Core.Bool.{true}
use mathlib.Core.Path.{◌≡◌, sym, ap, subst, ◌∙◌}
use mathlib.Core.List.{List, [], ◌∷◌, ◌++◌, map-append, reverse, reverse-cons}
use Prim.Native.Nat.{ℕ, ◌≤◌, ◌<◌}
use native.Mathlib.Omega.{arith}
use lib.ListN.{get_or}
use Rattle.worklist.specs.Search.{Chain}
use Rattle.worklist.specs.Links.{way_from}
use Rattle.worklist.proofs.Chains.{chain_none}
use Rattle.transducer.specs.Limits.{most_states}
use Rattle.transducer.specs.StateSet.{In}
use Rattle.transducer.specs.Accepted.{accepted_of}
use Rattle.transducer.specs.Useful.{UsefulPair}
use Rattle.transducer.specs.Walks.{Step, Reaches, Leaves}
use Rattle.transducer.specs.declared.Transducer.{Transducer}
use Rattle.transducer.proofs.MoveLaws.{move_walk}
use Rattle.transducer.proofs.WalkLaws.{walk_nil, reaches_step, leaves_step}
use Rattle.product.specs.Numbers.{most_pairs, pair_of, first_of, second_of, step_of}
use Rattle.pairs.specs.Ways.{Useful, MovesBack, Way, WaysOut, WayIn}
use Rattle.pairs.specs.declared.UsefulPairs.{UsefulPairs}
use Rattle.pairs.proofs.Promises.{pairs_promised}
use Rattle.witness.specs.Walk.{walk_of}

-- labels joined are steps joined
pub walk_append : (x y : List ℕ) → walk_of (x ++ y) ≡ walk_of x ++ walk_of y
walk_append x y = map-append step_of x y

-- ---- the walks

module _ {t : Transducer} {link step : List ℕ} {u : ℕ} where
  -- a chain of links backwards from a useful pair is a walk from two start states to it
  chain_reaches : WayIn t u link step → {v : ℕ} {ls : List ℕ} → Useful t v → Chain link step v ls → Reaches t (walk_of (reverse ls)) (first_of v) (second_of v)
  chain_reaches w {v} h (Chain.root e) =
      let i = (w.at_end v h).0 e in
      record { s = first_of v; s' = second_of v; starts = i.first; starts' = i.second; walk = walk_nil }
  chain_reaches w {v} h (Chain.link {j = j} {ls = ls} e c) =
      let k = w.linked v j e in
      let b = get_or step v 0 in
      subst (λ x. Reaches t x (first_of v) (second_of v)) (sym (ap walk_of (reverse-cons b ls) ∙ walk_append (reverse ls) (b ∷ [])))
      (reaches_step (chain_reaches w k.1 c) (move_walk (step_of b) k.2))

  -- a chain of links from a useful pair is a walk from it to two final states
  chain_leaves : Way t t.finals (MovesBack t) link step u → {v : ℕ} {ls : List ℕ} → Useful t v → Chain link step v ls
      → Leaves t (walk_of ls) (first_of v) (second_of v)
  chain_leaves w {v} h (Chain.root e) =
      let i = (w.at_end v h).0 e in
      record { f = first_of v; f' = second_of v; ends = i.first; ends' = i.second; walk = walk_nil }
  chain_leaves w {v} h (Chain.link {j = j} e c) =
      let k = w.linked v j e in
      leaves_step (move_walk (step_of (get_or step v 0)) k.2) (chain_leaves w k.1 c)

  -- the way into a useful pair leads from two start states to it
  pub way_reaches : WayIn t u link step → (v : ℕ) → Useful t v → Reaches t (walk_of (reverse (way_from link step v))) (first_of v) (second_of v)
  way_reaches w v h = chain_reaches w h (w.chain v h)

  -- the way out of a useful pair leads from it to two final states
  pub way_leaves : Way t t.finals (MovesBack t) link step u → (v : ℕ) → Useful t v
      → Leaves t (walk_of (way_from link step v)) (first_of v) (second_of v)
  way_leaves w v h = chain_leaves w h (w.chain v h)

-- ---- the useful pairs by their numbers

module _ {t : Transducer} {r : UsefulPairs} {out out_step : List ℕ} (valid : accepted_of t ≡ true)
    (ways : WaysOut t r out out_step) where
  -- the states of a useful pair are states, so its number is that of a pair
  states_low : (p q : ℕ) → UsefulPair t p q → (p < most_states) × (q < most_states)
  states_low p q h = pairs_promised.low valid ways.pairs p q h

  pub useful_low : (v : ℕ) → Useful t v → v < most_pairs
  useful_low v h = let l = states_low (first_of v) (second_of v) h in omega (arith, l.0)

  pub few_useful : r.count ≤ most_pairs
  few_useful = pairs_promised.few ways.pairs

  -- a useful pair by its number
  pub numbered : (p q : ℕ) → UsefulPair t p q → (first_of (pair_of p q) ≡ p) × (second_of (pair_of p q) ≡ q)
  numbered p q h = let l = states_low p q h in (omega (arith, l.1), omega (arith, l.1))

  pub numbered_useful : (p q : ℕ) → UsefulPair t p q → Useful t (pair_of p q)
  numbered_useful p q h = let n = numbered p q h in rw (n.0, n.1) h

  -- the walk out of the pair p, q
  abbrev pub out_walk : ℕ → ℕ → List Step
  out_walk p q = walk_of (way_from out out_step (pair_of p q))

  pub out_leaves : (p q : ℕ) → UsefulPair t p q → Leaves t (out_walk p q) p q
  out_leaves p q h = let n = numbered p q h in rw (n.0, n.1) at (way_leaves ways.way_out (pair_of p q) (numbered_useful p q h))

  pub out_done : (p q : ℕ) → UsefulPair t p q → In t.finals p → In t.finals q → out_walk p q ≡ []
  out_done p q h a a' =
      let n = numbered p q h in
      let u = numbered_useful p q h in
      ap walk_of (chain_none (ways.way_out.chain (pair_of p q) u) ((ways.way_out.at_end (pair_of p q) u).1 (record { first = rw n.0 a; second = rw n.1 a' })))
