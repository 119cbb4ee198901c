-- Flags that are set one by one: each state's own, and those that a state takes over from another. Assumes nothing.
use mathlib.Core.Path.{◌≡◌, refl, sym, ap, ◌∙◌}
use mathlib.Core.Bool.{Bool, true, false, ◌||◌, true≢false}
use mathlib.Core.List.{List}
use mathlib.Core.Logic.{◌≢◌, ◌⊎◌, inl, inr, ⊎_elim}
use Prim.Native.Nat.{ℕ, zero, suc, ◌+◌, ◌<◌}
use native.Mathlib.Decide.{ℕ_discrete}
use native.Mathlib.Omega.{arith}
use borrow.Author.Count.{below_more}
use lib.ListN.{length, get_or, set, replicate, length-set, length-replicate}
use lib.Seq.{get_or-set_same, get_or-set_other}
use Rattle.transducer.specs.Limits.{most_states}
use Rattle.worklist.specs.Lists.{zeros}
use Rattle.worklist.proofs.Visited.{zeros_set}
use Rattle.closure.specs.Closure.{flag_at_of, most_flags, Set, Own, Takes, Joins}

-- ---- the loop of `own`

-- a fresh list holds 0 everywhere
pub fresh_clear : (n i : ℕ) → ◌≡◌ {A = ℕ} (get_or (replicate n 0) i 0) 0
fresh_clear zero i = refl
fresh_clear (suc n) zero = refl
fresh_clear (suc n) (suc i) = fresh_clear n i

pub own_none : Own 0 (replicate most_flags 0)
own_none =
    record {
      size = length-replicate {A = ℕ} most_flags 0;
      own = λ q h. absurd (omega arith);
      only = λ i h. absurd (omega (arith, fresh_clear most_flags i));
    }

pub own_more : {n : ℕ} {list : List ℕ} → n < most_states → Own n list → Own (n + 1) (set list (flag_at_of n n) 1)
own_more {n} {list} low h =
    record {
      size = length-set list (flag_at_of n n) 1 ∙ h.size;
      own =
          below_more (λ q. 0 < get_or (set list (flag_at_of n n) 1) (flag_at_of q q) 0) n
          (λ q b. omega (arith, get_or-set_other list (flag_at_of n n) (flag_at_of q q) 1 0 (λ y. omega arith), h.own q b))
          (omega (arith, get_or-set_same list (flag_at_of n n) 1 0 (omega (arith, h.size))));
      only = λ i k. go i k (ℕ_discrete i (flag_at_of n n));
    }
  where
    go : (i : ℕ) → 0 < get_or (set list (flag_at_of n n) 1) i 0 → Dec (i ≡ flag_at_of n n) → (q : ℕ) × (q < most_states) × (i ≡ flag_at_of q q)
    go i k (yes e) = (n, low, e)
    go i k (no e) = h.only i (omega (arith, k, get_or-set_other list (flag_at_of n n) i 1 0 e))

-- ---- the loop of `join`

pub or_false : (a b : Bool) → (a || b) ≡ false → (a ≡ false) × (b ≡ false)
or_false false false e = (refl, refl)
or_false true b e = absurd (true≢false e)
or_false false true e = absurd (true≢false e)

-- a flag that is new, and then another that is new or not
pub less_either : {x y z : ℕ} (a b : Bool) → (a ≡ false → y ≡ x) → (a ≡ true → y < x) → (b ≡ false → z ≡ y) → (b ≡ true → z < y) → (a || b) ≡ true → z < x
less_either true true s f s' f' e = omega (arith, f refl, f' refl)
less_either true false s f s' f' e = omega (arith, f refl, s' refl)
less_either false true s f s' f' e = omega (arith, s refl, f' refl)
less_either false false s f s' f' e = absurd (true≢false (sym e))

pub same_both : {x y z : List ℕ} (a b : Bool) → (a ≡ false → y ≡ x) → (b ≡ false → z ≡ y) → (a || b) ≡ false → z ≡ x
same_both a b s s' e = let o = or_false a b e in s' o.1 ∙ s o.0

module _ {q s : ℕ} where
  pub joins_none : {list : List ℕ} → Joins q s 0 list list false
  joins_none =
      record {
        size = refl;
        kept = λ a b k. k;
        gained = λ b h. absurd (omega arith);
        only = λ a b k. inl k;
        same = λ _. refl;
        fewer = λ e. absurd (true≢false (sym e));
      }

  module _ {n : ℕ} {list list' list'' : List ℕ} {r r' : Bool} (first : q < most_states) (second : s < most_states) (low : n < most_states) where
    pub joins_more : Joins q s n list list' r → Takes (flag_at_of q n) (flag_at_of s n) list' list'' r' → Joins q s (n + 1) list list'' (r || r')
    joins_more h (Takes.old k e d) =
        rw e
        (record {
          size = h.size;
          kept = h.kept;
          gained =
              below_more (λ b. Set list s b → Set list' q b) n h.gained
              (λ x. record { first = first; second = low; flag = k (h.kept s n x).flag });
          only = h.only;
          same = λ z. h.same (or_false r r' z).0;
          fewer = λ z. h.fewer (either z);
        })
      where
        either : (r || r') ≡ true → r ≡ true
        either z = go r refl z
          where
            go : (b : Bool) → r ≡ b → (b || r') ≡ true → b ≡ true
            go true y z = refl
            go false y z = absurd (true≢false (sym z ∙ d))
    joins_more h (Takes.new inside k z e d) =
        let l = length-set list' (flag_at_of q n) 1 in
        record {
          size = ap length e ∙ l ∙ h.size;
          kept = λ a b x. still a b (h.kept a b x);
          gained = below_more (λ b. Set list s b → Set list'' q b) n (λ b low x. still q b (h.gained b low x)) (λ x. new);
          only = λ a b x. go a b x (ℕ_discrete (flag_at_of a b) (flag_at_of q n));
          same = λ y. absurd (true≢false (sym d ∙ (or_false r r' y).1));
          fewer = less_either r r' (λ y. ap zeros (h.same y)) h.fewer (λ y. absurd (true≢false (sym d ∙ y))) (λ y. fewer);
        }
      where
        fewer : zeros list'' < zeros list'
        fewer = omega (arith, ap zeros e, zeros_set list' (flag_at_of q n) 0 inside z)

        other : (i : ℕ) → i ≢ flag_at_of q n → get_or list'' i 0 ≡ get_or list' i 0
        other i x = ap (λ (w : List ℕ). get_or w i 0) e ∙ get_or-set_other list' (flag_at_of q n) i 1 0 x

        still : (a b : ℕ) → Set list' a b → Set list'' a b
        still a b x =
            record {
              first = x.first;
              second = x.second;
              flag = omega (arith, x.flag, other (flag_at_of a b) (λ y. omega (arith, z, x.flag, ap (λ (i : ℕ). get_or list' i 0) y)));
            }

        new : Set list'' q n
        new =
            record {
              first = first;
              second = low;
              flag = omega (arith, ap (λ (w : List ℕ). get_or w (flag_at_of q n) 0) e, get_or-set_same list' (flag_at_of q n) 1 0 inside);
            }

        -- what it takes was there at the beginning
        taken : Set list s n
        taken = ⊎_elim (λ x. x) (λ x. x.1) (h.only s n (record { first = second; second = low; flag = k }))

        go : (a b : ℕ) → Set list'' a b → Dec (flag_at_of a b ≡ flag_at_of q n) → Set list a b ⊎ ((a ≡ q) × Set list s b)
        go a b x (no y) = h.only a b (record { first = x.first; second = x.second; flag = omega (arith, x.flag, other (flag_at_of a b) y) })
        go a b x (yes y) =
            let e : b ≡ n = omega (arith, x.second) in
            let d : a ≡ q = omega (arith, x.second) in
            inr (d, rw e taken)
