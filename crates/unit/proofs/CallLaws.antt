-- A call in its two cases: some list is too short, or none is. Assumes nothing.
use mathlib.Core.Path.{◌≡◌, refl, sym, ◌∙◌}
use mathlib.Core.List.{List, [], ◌∷◌}
use mathlib.Core.Logic.{◌≢◌, ◌⊎◌, inl, inr}
use Prim.Native.Nat.{ℕ, ◌≤◌, ◌<◌}
use native.Mathlib.Decide.{ℕ_discrete}
use native.Mathlib.Omega.{arith}
use lib.ListN.{length, get_or}
use Rattle.buffers.specs.Put.{put}
use Rattle.transducer.specs.Refusals.{list_too_short, first_of}
use Rattle.transducer.proofs.Bools.{le_or_lt}
use Rattle.records.specs.Letters.{most_fields}
use Rattle.held.specs.Held.{held_size}
use Rattle.unit.specs.Calls.{Call, Holding, Lent}

-- ---- long enough, or not

abbrev pub OrNot : Type 0 → Type 0
OrNot A = A ⊎ (A → ⊥)

le_or_not : (n m : ℕ) → OrNot (n ≤ m)
le_or_not n m = go (le_or_lt n m)
  where
    go : (n ≤ m) ⊎ (m < n) → OrNot (n ≤ m)
    go (inl l) = inl l
    go (inr l) = inr (λ k. omega arith)

both : {A B : Type 0} → OrNot A → OrNot B → OrNot (A × B)
both (inl a) (inl b) = inl (a, b)
both (inl a) (inr n) = inr (λ k. n k.1)
both (inr n) b = inr (λ k. n k.0)

pub holding : (h : List ℕ) → OrNot (Holding h)
holding h = le_or_not held_size (length h)

pub lent : (n : ℕ) (a h : List ℕ) → OrNot (Lent n a h)
lent n a h = both (le_or_not n (length a)) (holding h)

pub line_lent : (h line : List ℕ) → OrNot (Holding h × (most_fields ≤ length line))
line_lent h line = both (holding h) (le_or_not most_fields (length line))

pub answer_lent : (n : ℕ) (a : List ℕ) → OrNot (n ≤ length a)
answer_lent n a = le_or_not n (length a)

pub three_holding : (h g m : List ℕ) → OrNot (Holding h × Holding g × Holding m)
three_holding h g m = go (holding h) (holding g) (holding m)
  where
    go : OrNot (Holding h) → OrNot (Holding g) → OrNot (Holding m) → OrNot (Holding h × Holding g × Holding m)
    go (inl a) (inl b) (inl c) = inl (a, b, c)
    go (inl a) (inl b) (inr n) = inr (λ k. n k.2)
    go (inl a) (inr n) c = inr (λ k. n k.1)
    go (inr n) b c = inr (λ k. n k.0)

-- ---- a call

module _ {Long Kept : Type 0} {Answers : ℕ → Type 0} {r : ℕ} (c : Call Long Kept Answers r) (l : OrNot Long) where
  -- what holds of 100, and of what an answer returns, holds of what is returned
  pub call_has : (P : ℕ → Type 0) → P list_too_short → (Long → Answers r → P r) → P r
  call_has P short answered = go l
    where
      go : OrNot Long → P r
      go (inl long) = answered long (c.answers long)
      go (inr few) = rw (c.short few).0 short

  -- where 100 is not returned, the lists are long enough
  pub long_lent : r ≢ list_too_short → Long
  long_lent n = go l
    where
      go : OrNot Long → Long
      go (inl long) = long
      go (inr few) = absurd (n (c.short few).0)

  -- and the call answers
  pub answered : r ≢ list_too_short → Answers r
  answered n = c.answers (long_lent n)

  pub done_lent : r ≡ 0 → Long
  done_lent z = long_lent (λ e. omega (arith, z, e))

  pub done : r ≡ 0 → Answers r
  done z = c.answers (done_lent z)

-- the same call, twice: both answer, or both return 100 and leave what is lent
pub twice : {Long Kept₁ Kept₂ Result : Type 0} {A₁ A₂ : ℕ → Type 0} {r₁ r₂ : ℕ} → Call Long Kept₁ A₁ r₁ → Call Long Kept₂ A₂ r₂ → OrNot Long
    → (A₁ r₁ → A₂ r₂ → Result) → (r₁ ≡ r₂ → r₁ ≡ list_too_short → Kept₁ → Kept₂ → Result) → Result
twice c k (inl long) answers short = answers (c.answers long) (k.answers long)
twice c k (inr few) answers short =
    let one = c.short few in
    let other = k.short few in
    short (one.0 ∙ sym other.0) one.0 one.1 other.1

-- ---- what is returned

-- what follows from 0 and from a refusal follows
pub either : (r : ℕ) {A : Type 0} → (r ≡ 0 → A) → (r ≢ 0 → A) → A
either r {A} done refused = go (ℕ_discrete r 0)
  where
    go : Dec (r ≡ 0) → A
    go (yes z) = done z
    go (no n) = refused n

-- two lists are left the same where each is what both calls leave
pub same_left : {A : Type 0} {r₁ r₂ : ℕ} {l l₁ l₂ : A} → r₁ ≡ r₂ → (r₁ ≡ 0 → r₂ ≡ 0 → l₁ ≡ l₂) → (r₁ ≢ 0 → l₁ ≡ l) → (r₂ ≢ 0 → l₂ ≡ l) → l₁ ≡ l₂
same_left {r₁ = r₁} same done one other =
    either r₁ (λ z. done z (sym same ∙ z)) (λ n. one n ∙ sym (other (λ z. n (same ∙ z))))

-- where there is no fault
pub first_none : (P : ℕ → Type 0) → P 0 → P (first_of [])
unfolding first_of
first_none P none = none

-- ---- the answer list

-- the first number that is put to the front of a list
pub front : (a : List ℕ) (k : ℕ) (ks : List ℕ) → get_or (put a 0 (k ∷ ks)) 0 0 ≡ k
unfolding put
front a k ks = refl
