-- Laws of the ways out, link by link. Assumes nothing.
use mathlib.Core.Path.{◌≡◌, refl, sym, ap, ◌∙◌}
use mathlib.Core.Bool.{Bool, true, false}
use mathlib.Core.List.{List, [], ◌∷◌, ◌++◌}
use mathlib.Core.Logic.{⊎_elim, ◌≢◌}
use Prim.Native.Nat.{ℕ, suc, ◌+◌, ◌*◌, ◌-◌, ◌≤◌, ◌<◌}
use native.Mathlib.Nat.{eq-or-lt_of_le}
use native.Mathlib.Omega.{arith}
use borrow.Author.Tests.{eqb-true, eqb-false}
use lib.Dec.{eqb}
use lib.ListN.{length, get_or, set, length-append}
use lib.Seq.{get_or-set_same, get_or-set_other}
use Rattle.transducer.specs.Limits.{most_outputs}
use Rattle.worklist.specs.Search.{Chain}
use Rattle.worklist.specs.Links.{way_from}
use Rattle.worklist.proofs.Chains.{chain_more, chain_none, way_is}
use Rattle.product.specs.Numbers.{most_pairs, Label}
use Rattle.witness.specs.Sides.{taken_of}
use Rattle.witness.proofs.SideLaws.{taken_small}
use Rattle.outputs.specs.Outputs.{count_at, codes_at}
use Rattle.delays.specs.WaysOut.{most_way, level, Links, Lists, Led, written_on, word_out, GapIs, Placed, Order, Gaps, Grounds}
use Rattle.outputs.proofs.OutputLaws.{length_codes}

-- where a link leads on from v: the next pair
pub record Onward (link label written : List ℕ) (v next : ℕ) : Type 0 where
  pub next_is : get_or link v 0 ≡ next + 1
  pub led_next : Led link label next
  pub way : way_from link label v ≡ get_or label v 0 ∷ way_from link label next
  pub fewer : length (way_from link label v) ≡ suc (length (way_from link label next))
  pub low_label : Label (get_or label v 0)
  pub word : (right : Bool)
      → word_out written link label right v ≡ codes_at written (taken_of right (get_or label v 0)) ++ word_out written link label right next

module _ {link label : List ℕ} (links : Links link label) where
  -- a chain of few enough labels from a pair is the way out of it
  led : {v : ℕ} {ls : List ℕ} → v < most_pairs → Chain link label v ls → length ls < most_pairs → Led link label v × (way_from link label v ≡ ls)
  led {v} {ls} h c k =
      let e : way_from link label v ≡ ls = way_is c (omega (arith, links.long_link)) in
      (record { inside = h; chain = rw e c; short = omega (arith, ap length e) }, e)

  pub onward : (written : List ℕ) {v : ℕ} → Led link label v → (get_or link v 0 ≡ 0 → ⊥) → Onward link label written v (get_or link v 0 - 1)
  unfolding written_on
  onward written {v} l h =
      let low = links.linked v h in
      let is : get_or link v 0 ≡ get_or link v 0 - 1 + 1 = omega arith in
      let c = chain_more l.chain is in
      let n = led (omega (arith, low.0)) c.chain (omega (arith, ap length c.is, l.short)) in
      let way = c.is ∙ ap (λ ls. get_or label v 0 ∷ ls) (sym n.1) in
      record {
        next_is = is;
        led_next = n.0;
        way = way;
        fewer = ap length way;
        low_label = low.1;
        word = λ right. ap (written_on written right) way;
      }

  -- the same, the pair being given
  pub onward_to : (written : List ℕ) {v next : ℕ} → Led link label v → get_or link v 0 ≡ next + 1 → Onward link label written v next
  onward_to written {v} {next} l e = let n : get_or link v 0 - 1 ≡ next = omega arith in rw n at (onward written l (λ z. omega arith))

-- where no link leads on, nothing more is written
pub word_ends : {link label : List ℕ} (written : List ℕ) {v : ℕ} → Led link label v → get_or link v 0 ≡ 0 → (right : Bool)
    → word_out written link label right v ≡ []
unfolding written_on
word_ends written l h right = ap (written_on written right) (chain_none l.chain h)

module _ {written link label : List ℕ} (lists : Lists written link label) where
  -- each link writes at most `most_outputs` codes
  written_few : (right : Bool) {v : ℕ} {ls : List ℕ} → Chain link label v ls → length (written_on written right ls) ≤ most_outputs * length ls
  unfolding written_on
  written_few right (Chain.root e) = omega arith
  written_few right {v} (Chain.link {ls = ls} e c) =
      let k = taken_of right (get_or label v 0) in
      omega (
        arith,
        length-append (codes_at written k) (written_on written right ls),
        length_codes written k,
        lists.outputs.few k (taken_small right (get_or label v 0) (lists.links.linked v (λ z. omega arith)).1),
        written_few right c,
      )

  pub word_short : (right : Bool) {v : ℕ} → Led link label v → length (word_out written link label right v) ≤ most_way
  word_short right l = omega (arith, written_few right l.chain, l.short)

-- ---- gaps

-- a pair that counts has a way, and so has one that is led where it does not count
pub led_or_counts : {written link label gap : List ℕ} {v : ℕ} → Grounds written link label gap
    → (v < most_pairs) × (get_or gap v 0 ≡ 0 → Led link label v) → Led link label v
led_or_counts {link = link} {label = label} {gap = gap} {v = v} g h = go (eqb (get_or gap v 0) 0) refl
  where
    go : (b : Bool) → eqb (get_or gap v 0) 0 ≡ b → Led link label v
    go true e = h.1 (eqb-true (get_or gap v 0) 0 e)
    go false e = g.ways v h.0 (eqb-false (get_or gap v 0) 0 e)

module _ {written link label : List ℕ} where
  -- where the way ends both sides write equally much
  pub gap_ends : {v : ℕ} → Led link label v → get_or link v 0 ≡ 0 → GapIs written link label v level
  gap_ends l z = record { balance = omega (arith, ap length (word_ends written l z false), ap length (word_ends written l z true)) }

  -- a gap is at most what one side writes from `level`
  pub gap_low : Lists written link label → {v g : ℕ} → Led link label v → GapIs written link label v g
      → (level ≤ g + most_way) × (g ≤ level + most_way)
  gap_low lists l g = (omega (arith, g.balance, word_short lists false l), omega (arith, g.balance, word_short lists true l))

  -- one step before a pair whose gap is known
  pub gap_onward : Lists written link label → {v next g : ℕ} → Onward link label written v next → GapIs written link label next g
      → {left right : ℕ} → left ≡ count_at written (taken_of false (get_or label v 0)) → right ≡ count_at written (taken_of true (get_or label v 0))
      → GapIs written link label v (g + right - left)
  gap_onward lists {v} {next} o is left_is right_is =
      let l = taken_of false (get_or label v 0) in
      let m = taken_of true (get_or label v 0) in
      record {
        balance =
            omega (
              arith,
              is.balance,
              (gap_low lists o.led_next is).0,
              lists.outputs.few l (taken_small false (get_or label v 0) o.low_label),
              ap length (o.word false),
              length-append (codes_at written l) (word_out written link label false next),
              length_codes written l,
              ap length (o.word true),
              length-append (codes_at written m) (word_out written link label true next),
              length_codes written m,
            );
      }

-- ---- the loop of `fill`

-- a place among the first h is one among more
pub placed_more : {order : List ℕ} {h n v : ℕ} → h ≤ n → Placed order h v → Placed order n v
placed_more low p = record { place = p.place; low = omega (arith, p.low); is = p.is }

-- a place among the first h + 1 is among the first h, or is h
placed_split : {order : List ℕ} {h v : ℕ} → Placed order (h + 1) v → (get_or order h 0 ≢ v) → Placed order h v
placed_split {order} {h} p n =
    record {
      place = p.place;
      low = ⊎_elim (λ (e : p.place ≡ h). absurd (n (ap (λ k. get_or order k 0) (sym e) ∙ p.is))) (λ (l : p.place < h). l) (eq-or-lt_of_le (let z : p.place ≤ h = omega (arith, p.low) in z));
      is = p.is;
    }

module _ {written link label order : List ℕ} where
  pub gaps_none : {gap : List ℕ} → ((v : ℕ) → get_or gap v 0 ≡ 0) → Gaps written link label order 0 gap
  gaps_none z = record { placed = λ v p. absurd (omega (arith, p.low)); only = λ v n. absurd (n (z v)) }

  pub gaps_more : {gap : List ℕ} {h v g : ℕ} → Gaps written link label order h gap → get_or order h 0 ≡ v → v < length gap
      → GapIs written link label v g → Gaps written link label order (h + 1) (set gap v g)
  gaps_more {gap} {h} {v} {g} gs here room is =
      record { placed = λ u. placed u (eqb u v) refl; only = λ u. only u (eqb u v) refl }
    where
      placed : (u : ℕ) (b : Bool) → eqb u v ≡ b → Placed order (h + 1) u → GapIs written link label u (get_or (set gap v g) u 0)
      placed u true e p =
          let q : u ≡ v = eqb-true u v e in
          rw (q, get_or-set_same gap v g 0 room) is
      placed u false e p =
          let n = eqb-false u v e in
          rw (get_or-set_other gap v u g 0 n) (gs.placed u (placed_split p (λ z. n (sym z ∙ here))))

      only : (u : ℕ) (b : Bool) → eqb u v ≡ b → get_or (set gap v g) u 0 ≢ 0 → Placed order (h + 1) u
      only u true e n = record { place = h; low = omega arith; is = here ∙ sym (eqb-true u v e) }
      only u false e n =
          placed_more (omega arith) (gs.only u (λ z. n (get_or-set_other gap v u g 0 (eqb-false u v e) ∙ z)))

-- with the gaps of all pairs that have a place, the equations have what they rely on
pub grounds : {written link label order gap : List ℕ} {n : ℕ} → Lists written link label → Order link label order n → length gap ≡ most_pairs
    → Gaps written link label order n gap → Grounds written link label gap
grounds {link = link} {label = label} lists o long g =
    record {
      lists = lists;
      long_gap = long;
      ways = λ v _ n. let p = g.only v n in rw p.is at (o.ways p.place p.low);
      gaps = λ v _ n. g.placed v (g.only v n);
    }

-- the gap of a pair that has a place is not 0
pub gap_there : {written link label order gap : List ℕ} {n : ℕ} → Lists written link label → Order link label order n
    → Gaps written link label order n gap → {v : ℕ} → Placed order n v → get_or gap v 0 ≢ 0
gap_there {link = link} {label = label} lists o g {v} p z =
    let l : Led link label v = rw p.is at (o.ways p.place p.low) in
    omega (arith, (gap_low lists l (g.placed v p)).0)
