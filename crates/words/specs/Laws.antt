-- What document 02 asks of the difference. Request 4: codes with which both words begin can be left out; `common_left_out` of proofs/CommonBeginning.antt
-- proves it for all words. Request 8: how far two words agree; `how_far` of proofs/HowFar.antt.
use Rattle.std.specs.Prelude.{◌≡◌, List, ◌++◌, ◌↔◌, ◌≢◌, ◌⊎◌, ℕ, ◌+◌, ◌≤◌, ◌<◌, length, get_or, take}
use Rattle.words.specs.Difference.{shared_of, later_by, difference_of, unmatched_of, past, shown_at}
use Rattle.words.specs.declared.Comparison.TheVariants.{Clash}

-- c can be left out of the words c ++ x and c ++ y
pub record CommonLeftOut (c x y : List ℕ) : Type 0 where
  -- the whole words are level, ahead on a side or a clash just as what follows c; of a clash the number is larger by as many codes as c has
  pub comparison : difference_of (c ++ x) (c ++ y) ≡ later_by (length c) (difference_of x y)
  -- they have the same unmatched end, as codes
  pub unmatched : unmatched_of (c ++ x) (c ++ y) ≡ unmatched_of x y
  -- they have as many codes more in common at the beginning as c has
  pub shared : shared_of (c ++ x) (c ++ y) ≡ length c + shared_of x y
  -- the part shown is the same part of memory: where the whole words begin at px and py, what follows c begins as many places on as c has codes
  pub place : (px py : ℕ × ℕ) → shown_at (c ++ x) (c ++ y) px py ≡ shown_at x y (past (length c) px) (past (length c) py)

-- the first n codes of x are those of y
pub record Agreeing (x y : List ℕ) (n : ℕ) : Type 0 where
  pub in_x : n ≤ length x
  pub in_y : n ≤ length y
  pub same : take n x ≡ take n y

-- they agree in n codes, and no further: the next code is another one in x than in y, where both have one
pub record Parting (x y : List ℕ) (n : ℕ) : Type 0 where
  pub agreeing : Agreeing x y n
  pub parts : n < length x → n < length y → get_or x n 0 ≢ get_or y n 0

-- they part at n, and both have a code there
pub record Clashing (x y : List ℕ) (n : ℕ) : Type 0 where
  pub parting : Parting x y n
  pub x_goes_on : n < length x
  pub y_goes_on : n < length y

-- how far the words x and y agree
pub record HowFar (x y : List ℕ) : Type 0 where
  -- what they have in common at the beginning ends where they part, and nowhere else
  pub shared : (n : ℕ) → (n ≡ shared_of x y) ↔ Parting x y n
  -- a clash carries that number, and there is one exactly where both go on
  pub clash : (n : ℕ) → (difference_of x y ≡ Clash n) ↔ Clashing x y n
  -- words that are not the same have less in common than the longer one has
  pub below : x ≢ y → (shared_of x y < length x) ⊎ (shared_of x y < length y)
