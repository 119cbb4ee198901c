-- Laws of the list of sets that the transitions make, one transition after the other. Assumes nothing.
use mathlib.Core.Path.{◌≡◌, sym, ap, ◌∙◌, subst}
use mathlib.Core.List.{List}
use mathlib.Core.Logic.{◌↔◌, inl, inr, ⊎_elim}
use Prim.Native.Nat.{ℕ, ◌+◌, ◌<◌, ◌^◌}
use native.Mathlib.Decide.{dec_lt, ℕ_discrete}
use native.Mathlib.Nat.{not-suc-le-zero}
use native.Mathlib.Omega.{arith}
use lib.Bits.{bit_or, or_lt}
use lib.Pow.{pow-lt, pow_pos}
use lib.ListN.{length, get_or, set, replicate, length-replicate, length-set, get_or-replicate, get_or-eq_default}
use lib.Seq.{get_or-set_same, get_or-set_other}
use Rattle.transducer.specs.Limits.{most_states}
use Rattle.transducer.specs.Walks.{Edge}
use Rattle.transducer.specs.declared.Transducer.{Transducer}
use Rattle.useful.specs.Sets.{Has, Sets, StepsOf}
use Rattle.useful.proofs.SetLaws.{has_none, has_one, has_or}

-- each of the zeros is 0, and so is what is read past them
zero_at : (p : ℕ) → ◌≡◌ {A = ℕ} (get_or (replicate most_states 0) p 0) 0
zero_at p = go (dec_lt p most_states)
  where
    go : Dec (p < most_states) → ◌≡◌ {A = ℕ} (get_or (replicate most_states 0) p 0) 0
    go (yes h) = get_or-replicate most_states p 0 0 h
    go (no h) = get_or-eq_default (replicate most_states 0) 0 {n = p} (omega (arith, length-replicate {A = ℕ} most_states 0))

-- the list has the sets of the states that the transitions below l lead to
pub record Led (t : Transducer) (l : ℕ) (list : List ℕ) : Type 0 where
  pub sets : Sets list
  pub leads : (p q : ℕ) → Has (get_or list p 0) q ↔ ((k : ℕ) × (k < l) × Edge t k p q)

module _ {t : Transducer} where
  pub led_none : {list : List ℕ} → list ≡ replicate most_states 0 → Led t 0 list
  led_none e =
      rw e
      record {
        sets = record { long = length-replicate {A = ℕ} most_states 0; small = λ p. rw (zero_at p) (pow_pos most_states) };
        leads = λ p q. (λ h. absurd (has_none q (subst (λ (x : ℕ). Has x q) (zero_at p) h)), λ k. absurd (not-suc-le-zero k.1));
      }

  -- transition l leads from p to q, which is added to the set of p
  pub led_more : {l p q : ℕ} {list list' : List ℕ} → Led t l list → Edge t l p q → p < most_states → q < most_states
      → list' ≡ set list p (bit_or (get_or list p 0) (2 ^ q)) → Led t (l + 1) list'
  led_more {l} {p} {q} {list} {list'} k e b b' new =
      record {
        sets = record { long = ap length new ∙ length-set list p (bit_or (get_or list p 0) (2 ^ q)) ∙ k.sets.long; small = small };
        leads = λ a c. (there a c, back a c);
      }
    where
      here : get_or list' p 0 ≡ bit_or (get_or list p 0) (2 ^ q)
      here = ap (λ (x : List ℕ). get_or x p 0) new ∙ get_or-set_same list p (bit_or (get_or list p 0) (2 ^ q)) 0 (omega (arith, b, k.sets.long))

      other : (a : ℕ) → (a ≡ p → ⊥) → get_or list' a 0 ≡ get_or list a 0
      other a n = ap (λ (x : List ℕ). get_or x a 0) new ∙ get_or-set_other list p a (bit_or (get_or list p 0) (2 ^ q)) 0 n

      small : (a : ℕ) → get_or list' a 0 < 2 ^ most_states
      small a = go (ℕ_discrete a p)
        where
          go : Dec (a ≡ p) → get_or list' a 0 < 2 ^ most_states
          go (no n) = rw (other a n) (k.sets.small a)
          go (yes z) = rw (z, here) (or_lt most_states (get_or list p 0) (2 ^ q) (k.sets.small p) (pow-lt b'))

      there : (a c : ℕ) → Has (get_or list' a 0) c → (i : ℕ) × (i < l + 1) × Edge t i a c
      there a c h = go (ℕ_discrete a p)
        where
          old : Has (get_or list a 0) c → (i : ℕ) × (i < l + 1) × Edge t i a c
          old o = let x = (k.leads a c).0 o in (x.0, omega (arith, x.1), x.2)

          go : Dec (a ≡ p) → (i : ℕ) × (i < l + 1) × Edge t i a c
          go (no n) = old (subst (λ (x : ℕ). Has x c) (other a n) h)
          go (yes z) =
              ⊎_elim
              (λ (o : Has (get_or list p 0) c). old (rw z o))
              (λ (o : Has (2 ^ q) c). (l, omega arith, record { used = e.used; source = e.source ∙ sym z; target = e.target ∙ (has_one q c).0 o }))
              ((has_or (get_or list p 0) (2 ^ q) c).0 (subst (λ (x : ℕ). Has x c) (ap (λ (x : ℕ). get_or list' x 0) z ∙ here) h))

      -- what was in a set is in it
      kept : (a c : ℕ) → Has (get_or list a 0) c → Has (get_or list' a 0) c
      kept a c h = go (ℕ_discrete a p)
        where
          go : Dec (a ≡ p) → Has (get_or list' a 0) c
          go (no n) = subst (λ (x : ℕ). Has x c) (sym (other a n)) h
          go (yes z) = rw (z, here) ((has_or (get_or list p 0) (2 ^ q) c).1 (inl (rw z at h)))

      back : (a c : ℕ) → (i : ℕ) × (i < l + 1) × Edge t i a c → Has (get_or list' a 0) c
      back a c x = go (dec_lt x.0 l)
        where
          go : Dec (x.0 < l) → Has (get_or list' a 0) c
          go (yes h) = kept a c ((k.leads a c).1 (x.0, h, x.2))
          go (no h) =
              let same : x.0 ≡ l = omega (arith, x.1) in
              let f : Edge t l a c = subst (λ (i : ℕ). Edge t i a c) same x.2 in
              rw (sym f.source ∙ e.source, here)
              ((has_or (get_or list p 0) (2 ^ q) c).1 (inr ((has_one q c).1 (sym e.target ∙ f.target))))

  -- where all transitions are gone through
  pub led_all : {n : ℕ} {list : List ℕ} → ((l p q : ℕ) → Edge t l p q → l < n) → Led t n list → StepsOf t list
  led_all below k =
      record {
        sets = k.sets;
        leads = λ p q. (λ h. let x = (k.leads p q).0 h in (x.0, x.2), λ x. (k.leads p q).1 (x.0, below x.0 p q x.1, x.1));
      }
