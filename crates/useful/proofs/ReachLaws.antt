-- Laws of the loop that works out what is reached: how it begins, goes on by a state that is found and not done, and ends. Assumes nothing.
use mathlib.Core.Path.{◌≡◌, refl, sym, subst}
use mathlib.Core.List.{List}
use mathlib.Core.Logic.{◌↔◌, inl, inr, ⊎_elim}
use Prim.Native.Nat.{ℕ, zero, suc, ◌^◌, ◌<◌}
use native.Mathlib.Omega.{arith}
use lib.Bits.{bit_or, bit_xor, or_lt, xor_lt}
use lib.Count.{count_trailing_zeros}
use lib.ListN.{get_or}
use lib.Pow.{pow-lt, pow_pos}
use Rattle.transducer.specs.Limits.{most_states}
use Rattle.useful.specs.Sets.{Has, Sets, Reached}
use Rattle.useful.proofs.SetLaws.{has_none, has_one, has_or, has_xor, has_below, xor_same, lowest}

-- in the loop: what is found is reached, and what the states that are done lead to is found
pub record Going (list : List ℕ) (from found done : ℕ) : Type 0 where
  pub found_small : found < 2 ^ most_states
  pub done_small : done < 2 ^ most_states
  pub sound : (q : ℕ) → Has found q → Reached list from q
  pub first : (q : ℕ) → Has from q → Has found q
  pub within : (q : ℕ) → Has done q → Has found q
  pub closed : (p q : ℕ) → Has done p → Has (get_or list p 0) q → Has found q

-- a state that is found and not done
pub record Left (found done q : ℕ) : Type 0 where
  pub member : Has found q
  pub open_yet : Has done q → ⊥
  pub below : q < most_states

module _ {list : List ℕ} {from : ℕ} where
  pub going_none : from < 2 ^ most_states → Going list from from 0
  going_none small =
      record {
        found_small = small;
        done_small = pow_pos most_states;
        sound = λ q h. Reached.start h;
        first = λ q h. h;
        within = λ q h. absurd (has_none q h);
        closed = λ p q h k. absurd (has_none p h);
      }

  -- where the two sets are not the same, the lowest state in which they differ is one
  pub left : {found done : ℕ} → Going list from found done → (found ≡ done → ⊥) → Left found done (count_trailing_zeros most_states (bit_xor found done))
  left {found} {done} g differ =
      let small = xor_lt most_states found done g.found_small g.done_small in
      let member = lowest most_states (bit_xor found done) (some (bit_xor found done) refl) small in
      let both = has_xor (g.within (count_trailing_zeros most_states (bit_xor found done))) member in
      record { member = both.0; open_yet = both.1; below = has_below most_states (count_trailing_zeros most_states (bit_xor found done)) small member }
    where
      some : (x : ℕ) → bit_xor found done ≡ x → 0 < x
      some zero e = absurd (differ (xor_same found done e))
      some (suc x) e = omega arith

  -- the state p, which is found, adds its set
  pub going_more : {found done p : ℕ} → Sets list → Going list from found done → Left found done p
      → Going list from (bit_or found (get_or list p 0)) (bit_or done (2 ^ p))
  going_more {found} {done} {p} sets g l =
      record {
        found_small = or_lt most_states found (get_or list p 0) g.found_small (sets.small p);
        done_small = or_lt most_states done (2 ^ p) g.done_small (pow-lt l.below);
        sound = λ q h. ⊎_elim (g.sound q) (λ k. Reached.step (g.sound p l.member) k) ((has_or found (get_or list p 0) q).0 h);
        first = λ q h. more q (g.first q h);
        within = λ q h.
            more q (⊎_elim (g.within q) (λ k. subst (λ (x : ℕ). Has found x) ((has_one p q).0 k) l.member) ((has_or done (2 ^ p) q).0 h));
        closed = λ a q h k.
            ⊎_elim
            (λ (d : Has done a). more q (g.closed a q d k))
            (λ d. (has_or found (get_or list p 0) q).1 (inr (subst (λ (x : ℕ). Has (get_or list x 0) q) (sym ((has_one p a).0 d)) k)))
            ((has_or done (2 ^ p) a).0 h);
      }
    where
      more : (q : ℕ) → Has found q → Has (bit_or found (get_or list p 0)) q
      more q h = (has_or found (get_or list p 0) q).1 (inl h)

  -- where all that is found is done
  pub going_done : {found done : ℕ} → Going list from found done → found ≡ done → (q : ℕ) → Has found q ↔ Reached list from q
  going_done {found} g e q = (g.sound q, all)
    where
      all : {p : ℕ} → Reached list from p → Has found p
      all (Reached.start {q = p} h) = g.first p h
      all (Reached.step {p = a} {q = p} r h) = g.closed a p (subst (λ (x : ℕ). Has x a) e (all r)) h
