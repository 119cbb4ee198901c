-- Laws of the way back: it is a chain of the parents, and goes on with the way back from the parent. Assumes nothing.
use mathlib.Core.Path.{◌≡◌, refl, ap}
use mathlib.Core.List.{List, [], ◌∷◌}
use mathlib.Core.Logic.{◌≢◌}
use Prim.Native.Nat.{ℕ, zero, suc, ◌-◌, ◌≤◌, ◌<◌}
use native.Mathlib.Nat.{not-suc-le-zero}
use native.Mathlib.Omega.{arith}
use lib.ListN.{length, get_or}
use Rattle.worklist.specs.Links.{way_from}
use Rattle.worklist.specs.Lists.{Worklist}
use Rattle.worklist.specs.Search.{Chain}
use Rattle.worklist.proofs.Chains.{chain_more, chain_none, way_is}
use Rattle.wordsearch.specs.Way.{Back}

module _ {N : ℕ} {s : Worklist} where
  -- from each place a chain leads back to a root, in no more steps than there are places before it
  back_chain : {i : ℕ} → Back N s i → (ls : List ℕ) × (length ls ≤ i) × Chain s.parent s.via i ls
  back_chain {i} k = below (suc i) i (omega arith) (omega arith)
    where
      below : (b j : ℕ) → j < b → j ≤ i → (ls : List ℕ) × (length ls ≤ j) × Chain s.parent s.via j ls
      below zero j h l = absurd (not-suc-le-zero h)
      below (suc b) j h l = go (get_or s.parent j 0) refl (below b)
        where
          go : (p : ℕ) → get_or s.parent j 0 ≡ p → ((m : ℕ) → m < b → m ≤ i → (ls : List ℕ) × (length ls ≤ m) × Chain s.parent s.via m ls)
              → (ls : List ℕ) × (length ls ≤ j) × Chain s.parent s.via j ls
          go zero e before = ([], omega arith, Chain.root e)
          go (suc m) e before =
              let o = k.older j l in
              let c = before m (omega arith) (omega arith) in
              (get_or s.via j 0 ∷ c.0, omega (arith, c.1), Chain.link {i = j} {j = m} (omega arith) c.2)

  pub back_way : {i : ℕ} → Back N s i → Chain s.parent s.via i (way_from s.parent s.via i)
  back_way {i} k =
      let c = back_chain k in
      rw (way_is c.2 (omega (arith, c.1, k.inside, k.parents))) c.2

  pub back_short : {i : ℕ} → Back N s i → length (way_from s.parent s.via i) ≤ i
  back_short {i} k =
      let c = back_chain k in
      rw (way_is c.2 (omega (arith, c.1, k.inside, k.parents))) c.1

  pub back_end : {i : ℕ} → Back N s i → get_or s.parent i 0 ≡ 0 → way_from s.parent s.via i ≡ []
  back_end k z = chain_none (back_way k) z

  -- the place that led to this one
  pub back_rest : {i : ℕ} → Back N s i → get_or s.parent i 0 ≢ 0 → Back N s (get_or s.parent i 0 - 1)
  back_rest {i} k n =
      let first = k.older i (omega arith) in
      record { nodes = k.nodes; parents = k.parents; labels = k.labels; inside = omega (arith, k.inside); older = λ l h. k.older l (omega arith) }

  pub back_step : {i : ℕ} → Back N s i → get_or s.parent i 0 ≢ 0
      → way_from s.parent s.via i ≡ get_or s.via i 0 ∷ way_from s.parent s.via (get_or s.parent i 0 - 1)
  back_step {i} k n =
      let j = get_or s.parent i 0 - 1 in
      let b = chain_more {j = j} (back_way k) (omega arith) in
      let short = back_short k in
      let inside = k.inside in
      let parents = k.parents in
      let way : way_from s.parent s.via j ≡ b.rest = way_is b.chain (omega (arith, ap length b.is)) in
      rw way b.is
