-- Laws of a machine's index: how the loops along the transitions of a state go on, and how one that has a key is found. Assumes nothing.
use mathlib.Core.Path.{◌≡◌, sym, ap, ◌∙◌}
use mathlib.Core.List.{List}
use mathlib.Core.Logic.{◌≢◌}
use Prim.Native.Nat.{ℕ, ◌+◌, ◌≤◌, ◌<◌}
use native.Mathlib.Decide.{dec_lt, ℕ_discrete}
use native.Mathlib.Omega.{arith}
use Rattle.transducer.specs.Limits.{most_states}
use Rattle.product.specs.Machine.{count_of, head_of, from_of, key_of, next_of, Leaves, Follows, Along, Machine}
use Rattle.product.specs.Numbers.{no_transition}
use Rattle.product.specs.Steps.{Keyed, past_last, Least}

module _ {m : List ℕ} (machine : Machine m) where
  -- a loop along the transitions that leave q begins with the first of them
  pub head_follows : {q r : ℕ} → q < most_states → r ≡ head_of m q → Follows m q 0 r
  head_follows {q} h e = rw e (machine.heads q h)

  pub along_head : {q r : ℕ} → q < most_states → r ≡ head_of m q → Along m q r
  along_head h e = let f = head_follows h e in record { most = f.most; leaves = f.leaves }

  -- and goes on to the next
  pub next_follows : {q l r : ℕ} → Along m q l → l < no_transition → r ≡ next_of m l → Follows m q (l + 1) r
  next_follows {q} {l} a h e = let x = a.leaves h in rw e (rw x.source at (machine.nexts l x.used))

  pub along_next : {q l r : ℕ} → Along m q l → l < no_transition → r ≡ next_of m l → Along m q r
  along_next a h e = let f = next_follows a h e in record { most = f.most; leaves = f.leaves }

  -- the next is the one behind, where that leaves the same state
  pub next_behind : {l : ℕ} → l < count_of m → Leaves m (l + 1) (from_of m l) → next_of m l ≡ l + 1
  next_behind {l} h x = go (dec_lt (l + 1) (next_of m l))
    where
      go : Dec (l + 1 < next_of m l) → next_of m l ≡ l + 1
      go (yes b) = absurd ((machine.nexts l h).least (l + 1) (omega arith) b x)
      go (no b) = let f = machine.nexts l h in omega (arith, f.above)

  -- a search along the transitions that leave q for one that has the key: none before l has it
  pub record Seeking (q key low l : ℕ) : Type 0 where
    pub above : low ≤ l
    pub most : l ≤ no_transition
    pub leaves : l < no_transition → Leaves m l q
    pub least : (k : ℕ) → low ≤ k → k < l → Leaves m k q → key_of m k ≡ key → ⊥

  -- it begins
  pub seeking_first : {q key l : ℕ} → Along m q l → Seeking q key l l
  seeking_first a = record { above = omega arith; most = a.most; leaves = a.leaves; least = λ k h b x e. omega arith }

  -- it passes a transition with another key
  pub seeking_more : {q key low l r : ℕ} → Seeking q key low l → l < no_transition → key_of m l ≢ key → r ≡ next_of m l
      → Seeking q key low r × (l < r)
  seeking_more {q} {key} {low} {l} s h n e =
      let x = s.leaves h in
      let f = rw x.source at (machine.nexts l x.used) in
      rw e (
        record {
          above = omega (arith, s.above, f.above);
          most = f.most;
          leaves = f.leaves;
          least = λ k a b y d. go k a b y d (dec_lt k l) (ℕ_discrete k l) f;
        },
        omega (arith, f.above),
      )
    where
      go : (k : ℕ) → low ≤ k → k < next_of m l → Leaves m k q → key_of m k ≡ key → Dec (k < l) → Dec (k ≡ l) → Follows m q (l + 1) (next_of m l) → ⊥
      go k a b y d (yes c) _ f = s.least k a c y d
      go k a b y d (no c) (yes g) f = n (sym (ap (key_of m) g) ∙ d)
      go k a b y d (no c) (no g) f = f.least k (let z : k ≡ l → ⊥ = g in omega arith) b y

  -- it ends, where the key is found or no transition is left
  pub seeking_found : {q key low l : ℕ} → Seeking q key low l → l < no_transition → key_of m l ≡ key → Least (Keyed m q key) low l
  seeking_found s h e =
      record { above = s.above; most = omega (arith, s.most); has = λ z. record { leaves = s.leaves h; same = e }; none = λ k a b x. s.least k a b x.leaves x.same }

  pub seeking_none : {q key low l : ℕ} → Seeking q key low l → no_transition ≤ l → Least (Keyed m q key) low past_last
  seeking_none {q} {key} {low} {l} s h =
      record {
        above = omega (arith, s.above, s.most);
        most = omega arith;
        has = λ z. absurd (omega arith);
        none = λ k a b x. s.least k a (omega (arith, x.leaves.used, machine.few)) x.leaves x.same;
      }

  -- what comes before the first transition of a state, and what comes between two that follow each other, has no key
  pub keyed_from : {q key low l r : ℕ} → Follows m q low l → Least (Keyed m q key) l r → Least (Keyed m q key) low r
  keyed_from {q} {key} {low} {l} {r} f x =
      record { above = omega (arith, f.above, x.above); most = x.most; has = x.has; none = λ k a b y. go k a b y (dec_lt k l) }
    where
      go : (k : ℕ) → low ≤ k → k < r → Keyed m q key k → Dec (k < l) → ⊥
      go k a b y (yes c) = f.least k a c y.leaves
      go k a b y (no c) = x.none k (omega arith) b y

  -- the transitions that leave a state are rows, and the last row comes after them
  row_follows : {q low r : ℕ} → Follows m q low r → Least (Along m q) low r
  row_follows f =
      record {
        above = f.above;
        most = omega (arith, f.most);
        has = λ z. record { most = f.most; leaves = f.leaves };
        none = λ l a b x. f.least l a b (x.leaves (omega (arith, f.most)));
      }

  -- the first row
  pub row_head : {q r : ℕ} → q < most_states → r ≡ head_of m q → Least (Along m q) 0 r
  row_head h e = row_follows (head_follows h e)

  -- the next row, and past the row in which the left side rests none
  pub row_next : {q l r : ℕ} → Along m q l → l < no_transition → r ≡ next_of m l → Least (Along m q) (l + 1) r
  row_next a h e = row_follows (next_follows a h e)

  pub row_end : {q l : ℕ} → l ≡ no_transition → Least (Along m q) (l + 1) past_last
  row_end e = record { above = omega arith; most = omega arith; has = λ z. absurd (omega arith); none = λ k a b x. omega (arith, x.most) }
