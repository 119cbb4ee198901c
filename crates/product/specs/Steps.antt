-- The steps of a pair of states, one of each of two machines, and their order: row by row, and in a row step by step.
use Rattle.std.specs.Prelude.{cond, ◌≡◌, List, ◌≢◌, ℕ, ◌+◌, ◌/◌, ◌%◌, ◌≤◌, ◌<◌, eqb}
use Rattle.product.specs.Machine.{to_of, key_of, Leaves, Along}
use Rattle.product.specs.Numbers.{no_transition, pair_of, first_of, second_of, sides, label_of}

-- the state that a side enters which is in the state q and takes l
unfoldable pub side_of : List ℕ → ℕ → ℕ → ℕ
side_of m q l = cond (eqb l no_transition) q (to_of m l)

-- the key beside which the right side steps where the left side takes l: its key, or 0 where it rests
unfoldable pub row_key_of : List ℕ → ℕ → ℕ
row_key_of m l = cond (eqb l no_transition) 0 (key_of m l)

-- l is a transition that leaves q and has the key
pub record Keyed (m : List ℕ) (q key l : ℕ) : Type 0 where
  pub leaves : Leaves m l q
  pub same : key_of m l ≡ key

-- past the last row of a pair, and past the last step of a row
abbrev pub past_last : ℕ
past_last = no_transition + 1

-- r is the least number from `low` on that has P, or there is none up to 256, and r is 257
pub record Least (P : ℕ → Type 0) (low r : ℕ) : Type 0 where
  pub above : low ≤ r
  pub most : r ≤ past_last
  pub has : r < past_last → P r
  pub none : (n : ℕ) → low ≤ n → n < r → P n → ⊥

-- r is the first row of u from `low` on, or 257: a transition that leaves the first state, or 256, with which the left side rests
abbrev pub RowFrom : List ℕ → ℕ → ℕ → ℕ → Type 0
RowFrom left u low r = Least (Along left (first_of u)) low r

module _ (left right : List ℕ) where
  -- the pair u has a step with the label k: a transition on each side with the same key, or one alone whose key is 0
  pub data Steps (u k : ℕ) : Type 0 where
    by_both : (l m : ℕ) → k ≡ label_of l m → Leaves left l (first_of u) → Leaves right m (second_of u)
        → key_of left l ≡ key_of right m → key_of left l ≢ 0 → Steps u k
    by_left : (l : ℕ) → k ≡ label_of l no_transition → Leaves left l (first_of u) → key_of left l ≡ 0 → Steps u k
    by_right : (m : ℕ) → k ≡ label_of no_transition m → Leaves right m (second_of u) → key_of right m ≡ 0 → Steps u k

  -- the pair to which it leads
  unfoldable pub target_of : ℕ → ℕ → ℕ
  target_of u k = pair_of (side_of left (first_of u) (k / sides)) (side_of right (second_of u) (k % sides))

  -- r is the first step of u in the row from `low` on, or 257: what the right side takes
  abbrev pub StepFrom : ℕ → ℕ → ℕ → ℕ → Type 0
  StepFrom u row low r = Least (λ m. Steps u (label_of row m)) low r

  -- no step of u has a label from `low` on and below `high`
  pub record Past (u low high : ℕ) : Type 0 where
    pub above : low ≤ high
    pub none : (k : ℕ) → low ≤ k → k < high → Steps u k → ⊥
