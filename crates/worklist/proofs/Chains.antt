-- Laws of chains of links, over any lists: a chain goes on with what is behind its first link, and it is the way from its node.
use mathlib.Core.Path.{◌≡◌, refl}
use mathlib.Core.List.{List, [], ◌∷◌}
use Prim.Native.Nat.{ℕ, zero, suc, ◌+◌, ◌-◌, ◌≤◌}
use native.Mathlib.Omega.{arith}
use borrow.Author.Tests.{eq-eqb, ne_eqb}
use lib.ListN.{length, get_or}
use Rattle.worklist.specs.Search.{Chain}
use Rattle.worklist.specs.Links.{labels_by, way_from}

-- what is behind the first link of a chain
pub record Behind (link label : List ℕ) (v j : ℕ) (ls : List ℕ) : Type 0 where
  pub rest : List ℕ
  pub is : ls ≡ get_or label v 0 ∷ rest
  pub chain : Chain link label j rest

module _ {link label : List ℕ} where
  -- from a node with a link
  pub chain_more : {v j : ℕ} {ls : List ℕ} → Chain link label v ls → get_or link v 0 ≡ j + 1 → Behind link label v j ls
  chain_more (Chain.root e) h = absurd (omega arith)
  chain_more {j = j} (Chain.link {j = j'} e c) h =
      let q : j ≡ j' = omega arith in record { rest = _; is = refl; chain = rw q c }

  -- from a node without
  pub chain_none : {v : ℕ} {ls : List ℕ} → Chain link label v ls → get_or link v 0 ≡ 0 → ls ≡ []
  chain_none (Chain.root e) h = refl
  chain_none (Chain.link e c) h = absurd (omega arith)

  -- with fuel enough the labels are those of the chain
  labels_chain : {v : ℕ} {ls : List ℕ} → Chain link label v ls → (fuel : ℕ) → length ls ≤ fuel → labels_by link label fuel v ≡ ls
  unfolding labels_by
  labels_chain (Chain.root e) zero h = refl
  labels_chain {v} (Chain.root e) (suc fuel) h = rw (eq-eqb (get_or link v 0) 0 e)
  labels_chain (Chain.link e c) zero h = absurd (omega arith)
  labels_chain {v} (Chain.link {j = j} e c) (suc fuel) h =
      let q : get_or link v 0 - 1 ≡ j = omega arith in
      rw (ne_eqb (get_or link v 0) 0 (λ z. omega arith), q, labels_chain c fuel (omega arith))

  -- a chain of no more labels than there are links is the way
  pub way_is : {v : ℕ} {ls : List ℕ} → Chain link label v ls → length ls ≤ length link → way_from link label v ≡ ls
  unfolding way_from
  way_is c h = labels_chain c (length link) h
