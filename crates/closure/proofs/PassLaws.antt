-- Passes over the transitions: what one brings is right, and after one that brings nothing the flags tell the closures. Assumes nothing.
use mathlib.Core.Path.{◌≡◌, refl, sym, ap, ◌∙◌}
use mathlib.Core.Bool.{Bool, true, false, ◌||◌, true≢false}
use mathlib.Core.List.{List}
use mathlib.Core.Logic.{⊎_elim}
use Prim.Native.Nat.{ℕ, ◌+◌, ◌<◌}
use native.Mathlib.Omega.{arith}
use borrow.Author.Count.{below_more}
use Rattle.transducer.specs.Limits.{most_states}
use Rattle.worklist.specs.Lists.{zeros}
use Rattle.product.specs.Machine.{count_of, Machine}
use Rattle.closure.specs.Closure.{flag_at_of, Set, Empty, Silent, ClosureOf, Own, Sound, Followed, Passed}
use Rattle.closure.proofs.FlagLaws.{or_false, less_either, same_both}

module _ {m written : List ℕ} where
  -- one transition more at the end
  pub silent_more : {q s l p : ℕ} → Silent m written q s → Empty m written s l p → Silent m written q p
  silent_more {q = q} {l = l} {p = p} (Silent.stay e) x = Silent.step {q = q} {l = l} {s = p} (rw e x) (Silent.stay refl)
  silent_more (Silent.step y r) x = Silent.step y (silent_more r x)

  -- the flags of each state and itself are right
  pub own_sound : {list : List ℕ} → Own most_states list → Sound m written list
  own_sound h =
      record {
        size = h.size;
        own = λ q b. record { first = b; second = b; flag = h.own q b };
        only = λ q p k.
            let f = h.only (flag_at_of q p) k.flag in
            Silent.stay {q = q} {p = p} (omega (arith, f.2, f.1, k.first, k.second));
      }

  -- what a transition brings is right
  followed_sound : {l : ℕ} {list list' : List ℕ} {r : Bool} → Sound m written list → Followed m written l list list' r → Sound m written list'
  followed_sound h (Followed.passed n e d) = rw e h
  followed_sound h (Followed.joined x j) =
      record {
        size = j.size ∙ h.size;
        own = λ q b. j.kept q q (h.own q b);
        only = λ q p k.
            ⊎_elim (h.only q p) (λ a. rw a.0 (Silent.step x (h.only _ p a.1))) (j.only q p k);
      }

  followed_same : {l : ℕ} {list list' : List ℕ} {r : Bool} → Followed m written l list list' r → r ≡ false → list' ≡ list
  followed_same (Followed.passed n e d) z = e
  followed_same (Followed.joined x j) z = j.same z

  followed_fewer : {l : ℕ} {list list' : List ℕ} {r : Bool} → Followed m written l list list' r → r ≡ true → zeros list' < zeros list
  followed_fewer (Followed.passed n e d) z = absurd (true≢false (sym z ∙ d))
  followed_fewer (Followed.joined x j) z = j.fewer z

  -- where it brings nothing, its source has what its target has
  followed_closed : {l : ℕ} {list list' : List ℕ} {r : Bool} → Followed m written l list list' r → r ≡ false
      → (q s p : ℕ) → Empty m written q l s → Set list' s p → Set list' q p
  followed_closed (Followed.passed n e d) z q s p x k = absurd (n q s x)
  followed_closed {list = list} {list'} (Followed.joined y j) z q s p x k =
      rw (← x.leaves.source) (j.gained p k.second (rw (← x.enters, j.same z) at k))

  -- ---- the loop of `pass`

  pub passed_none : {list : List ℕ} → Sound m written list → Passed m written 0 list list false
  passed_none h =
      record { sound = h; same = λ _. refl; closed = λ _ k b. absurd (omega arith); fewer = λ e. absurd (true≢false (sym e)) }

  pub passed_more : {l : ℕ} {list list' list'' : List ℕ} {r r' : Bool} → Passed m written l list list' r → Followed m written l list' list'' r'
      → Passed m written (l + 1) list list'' (r || r')
  passed_more {l} {list} {list'} {list''} {r} {r'} h f =
      record {
        sound = followed_sound h.sound f;
        same = same_both r r' h.same (followed_same f);
        closed = λ z.
            let o = or_false r r' z in
            below_more (λ k. (q s p : ℕ) → Empty m written q k s → Set list'' s p → Set list'' q p) l (rw (followed_same f o.1) (h.closed o.0))
            (followed_closed f o.1);
        fewer = less_either r r' (λ z. ap zeros (h.same z)) h.fewer (λ z. ap zeros (followed_same f z)) (followed_fewer f);
      }

-- ---- the loop of `new`

module _ {m written : List ℕ} where
  -- after a pass that brings nothing the flags tell the closures
  pub closed_all : {list list' : List ℕ} {r : Bool} → Machine m → r ≡ false → Passed m written (count_of m) list list' r → ClosureOf m written list'
  closed_all {list} {list'} machine e h = record { size = h.sound.size; all = all; only = h.sound.only }
    where
      all : (q p : ℕ) → q < most_states → Silent m written q p → Set list' q p
      all q p b (Silent.stay s) = rw (← s) (h.sound.own q b)
      all q p b (Silent.step {s = s} x r) =
          h.closed e _ x.leaves.used q s p x (all s p (rw x.enters at (machine.to_state _ x.leaves.used)) r)
