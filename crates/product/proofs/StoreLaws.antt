-- A machine with no transition on record, and a transition put into a machine: five stores at five places. Assumes nothing.
use mathlib.Core.Path.{◌≡◌, ap, ◌∙◌}
use mathlib.Core.List.{List, ◌++◌}
use mathlib.Core.Logic.{◌≢◌}
use Prim.Native.Nat.{ℕ, ◌+◌, ◌*◌, ◌<◌}
use native.Mathlib.Omega.{arith}
use borrow.Rule.Slice.PartMut.{put_mid, post_of}
use lib.ListN.{length, get_or, set, take, replicate, length-set, length-replicate}
use lib.Seq.{get_or-set_same, get_or-set_other}
use Rattle.std.proofs.Common.{length-append, length-drop}
use Rattle.std.proofs.lemmas.List.{get_or_append_left, get_or-append_right, get_or-take, get_or-replicate, length-take-le}
use Rattle.transducer.specs.Limits.{most_states, most_transitions}
use Rattle.product.specs.Machine.{most_places, count_of, head_of, from_of, to_of, key_of, next_of, Cleared, Put}
use Rattle.product.specs.Numbers.{no_transition}

-- the count is stored, and the states' places are filled
pub cleared : (m heads : List ℕ) (n : ℕ) → length m ≡ most_places → heads ≡ replicate most_states no_transition
    → Cleared (put_mid 2 most_states (set m 0 n) heads) n
unfolding count_of head_of
cleared m heads n long e =
    record {
      long = simp (length-append, length-drop, length-set) (omega (arith, front, full, long));
      count =
          get_or_append_left (take 2 l) _ 0 0 (omega (arith, front)) ∙ get_or-take 2 l 0 0 (omega arith)
          ∙ get_or-set_same m 0 n 0 (omega (arith, long));
      heads = λ q h.
          get_or-append_right (take 2 l) (heads ++ post_of 2 most_states l) 2 (2 + q) 0 front (omega arith)
          ∙ ap (λ k. get_or (heads ++ post_of 2 most_states l) k 0) (omega arith)
          ∙ get_or_append_left heads (post_of 2 most_states l) 0 q (omega (arith, full))
          ∙ ap (λ (xs : List ℕ). get_or xs q 0) e
          ∙ get_or-replicate most_states q no_transition 0 h;
    }
  where
    l : List ℕ
    l = set m 0 n

    front : length (take 2 l) ≡ 2
    front = length-take-le 2 l (omega (arith, length-set m 0 n, long))

    full : length heads ≡ most_states
    full = ap length e ∙ length-replicate most_states no_transition

module _ (m : List ℕ) (a b c d e v w x y z : ℕ) where
  abbrev five : List ℕ
  five = set (set (set (set (set m a v) b w) c x) d y) e z

  -- what stands elsewhere is as it was
  apart : (k : ℕ) → k ≢ a → k ≢ b → k ≢ c → k ≢ d → k ≢ e → get_or five k 0 ≡ get_or m k 0
  apart k na nb nc nd ne =
      rw (
        get_or-set_other (set (set (set (set m a v) b w) c x) d y) e k z 0 ne,
        get_or-set_other (set (set (set m a v) b w) c x) d k y 0 nd,
        get_or-set_other (set (set m a v) b w) c k x 0 nc,
        get_or-set_other (set m a v) b k w 0 nb,
        get_or-set_other m a k v 0 na,
      )

  at_a : a < length m → a ≢ b → a ≢ c → a ≢ d → a ≢ e → get_or five a 0 ≡ v
  at_a h nb nc nd ne =
      rw (
        get_or-set_other (set (set (set (set m a v) b w) c x) d y) e a z 0 ne,
        get_or-set_other (set (set (set m a v) b w) c x) d a y 0 nd,
        get_or-set_other (set (set m a v) b w) c a x 0 nc,
        get_or-set_other (set m a v) b a w 0 nb,
        get_or-set_same m a v 0 h,
      )

  at_b : b < length m → b ≢ c → b ≢ d → b ≢ e → get_or five b 0 ≡ w
  at_b h nc nd ne =
      let r : b < length (set m a v) = simp length-set h in
      rw (
        get_or-set_other (set (set (set (set m a v) b w) c x) d y) e b z 0 ne,
        get_or-set_other (set (set (set m a v) b w) c x) d b y 0 nd,
        get_or-set_other (set (set m a v) b w) c b x 0 nc,
        get_or-set_same (set m a v) b w 0 r,
      )

  at_c : c < length m → c ≢ d → c ≢ e → get_or five c 0 ≡ x
  at_c h nd ne =
      let r : c < length (set (set m a v) b w) = simp length-set h in
      rw (
        get_or-set_other (set (set (set (set m a v) b w) c x) d y) e c z 0 ne,
        get_or-set_other (set (set (set m a v) b w) c x) d c y 0 nd,
        get_or-set_same (set (set m a v) b w) c x 0 r,
      )

  at_d : d < length m → d ≢ e → get_or five d 0 ≡ y
  at_d h ne =
      let r : d < length (set (set (set m a v) b w) c x) = simp length-set h in
      rw (get_or-set_other (set (set (set (set m a v) b w) c x) d y) e d z 0 ne, get_or-set_same (set (set (set m a v) b w) c x) d y 0 r)

  at_e : e < length m → get_or five e 0 ≡ z
  at_e h =
      let r : e < length (set (set (set (set m a v) b w) c x) d y) = simp length-set h in
      rw (get_or-set_same (set (set (set (set m a v) b w) c x) d y) e z 0 r)

  five_long : length five ≡ length m
  five_long = simp length-set

-- where the places of transition l begin
abbrev pub place : ℕ → ℕ
place l = 2 + most_states + l * 4

-- the list after the stores of one transition
abbrev pub put_of : List ℕ → ℕ → ℕ → ℕ → ℕ → List ℕ
put_of m l from to key =
    set (set (set (set (set m (place l) from) (place l + 1) to) (place l + 2) key) (place l + 3) (get_or m (2 + from) 0)) (2 + from) l

module _ (m : List ℕ) (l from to key : ℕ) (long : length m ≡ most_places) (low : l < most_transitions) (state : from < most_states) where
  here : (k : ℕ) → k ≢ place l → k ≢ place l + 1 → k ≢ place l + 2 → k ≢ place l + 3 → k ≢ 2 + from
      → get_or (put_of m l from to key) k 0 ≡ get_or m k 0
  here = apart m (place l) (place l + 1) (place l + 2) (place l + 3) (2 + from) from to key (get_or m (2 + from) 0) l

  -- transition l is put before those of its state
  pub put_stores : Put m (put_of m l from to key) l from to key
  unfolding count_of head_of from_of to_of key_of next_of
  put_stores =
      record {
        long = five_long m (place l) (place l + 1) (place l + 2) (place l + 3) (2 + from) from to key (get_or m (2 + from) 0) l ∙ long;
        count = here 0 (λ z. omega arith) (λ z. omega arith) (λ z. omega arith) (λ z. omega arith) (λ z. omega arith);
        from_here =
            at_a m (place l) (place l + 1) (place l + 2) (place l + 3) (2 + from) from to key (get_or m (2 + from) 0) l (omega arith)
            (λ z. omega arith) (λ z. omega arith) (λ z. omega arith) (λ z. omega arith);
        to_here =
            at_b m (place l) (place l + 1) (place l + 2) (place l + 3) (2 + from) from to key (get_or m (2 + from) 0) l (omega arith)
            (λ z. omega arith) (λ z. omega arith) (λ z. omega arith);
        key_here =
            at_c m (place l) (place l + 1) (place l + 2) (place l + 3) (2 + from) from to key (get_or m (2 + from) 0) l (omega arith)
            (λ z. omega arith) (λ z. omega arith);
        next_here =
            at_d m (place l) (place l + 1) (place l + 2) (place l + 3) (2 + from) from to key (get_or m (2 + from) 0) l (omega arith)
            (λ z. omega arith);
        head_here = at_e m (place l) (place l + 1) (place l + 2) (place l + 3) (2 + from) from to key (get_or m (2 + from) 0) l (omega arith);
        heads = λ q h n.
            here (2 + q) (λ z. omega arith) (λ z. omega arith) (λ z. omega arith) (λ z. omega arith) (λ z. n (omega arith));
        froms = λ k n.
            here (place k) (λ z. n (omega arith)) (λ z. omega arith) (λ z. omega arith) (λ z. omega arith) (λ z. omega arith);
        tos = λ k n.
            here (place k + 1) (λ z. omega arith) (λ z. n (omega arith)) (λ z. omega arith) (λ z. omega arith) (λ z. omega arith);
        keys = λ k n.
            here (place k + 2) (λ z. omega arith) (λ z. omega arith) (λ z. n (omega arith)) (λ z. omega arith) (λ z. omega arith);
        nexts = λ k n.
            here (place k + 3) (λ z. omega arith) (λ z. omega arith) (λ z. omega arith) (λ z. n (omega arith)) (λ z. omega arith);
      }
