-- Parts put into a buffer one after the other, by a loop or by calls in a row: the part of turn i is put behind those of the turns below i.
-- Assumes nothing.
use mathlib.Core.Path.{◌≡◌, refl, sym, ap, ◌∙◌}
use mathlib.Core.List.{List, [], ◌∷◌, ◌++◌, map, flat_map, append_assoc, append-nil}
use mathlib.Core.Logic.{⊎_elim}
use Prim.Native.Nat.{ℕ, zero, suc, ◌+◌, ◌≤◌, ◌<◌}
use native.Mathlib.Nat.{eq-or-lt_of_le, le_of_suc-le-suc}
use native.Mathlib.Numerals.{add-one}
use native.Mathlib.Omega.{arith}
use lib.ListN.{length, get_or, length-append}
use Rattle.buffers.specs.Put.{Room, Puts}
use Rattle.buffers.proofs.PutsLaws.{puts_none, puts_length, room_behind, puts_behind}

-- the parts below n, one after the other
unfoldable pub below : (ℕ → List ℕ) → ℕ → List ℕ
below part zero = []
below part (suc n) = below part n ++ part n

-- parts in a row
abbrev pub in_row : List (List ℕ) → ℕ → List ℕ
in_row parts i = get_or parts i []

-- the bytes are the parts below n; those below i are put from `start`, and `at` is the place behind them
pub record Parts (bytes : List ℕ) (part : ℕ → List ℕ) (n : ℕ) (before : List ℕ) (start i : ℕ) (out : List ℕ) (at : ℕ) : Type 0 where
  pub whole : bytes ≡ below part n
  pub room : Room before start bytes
  pub within : i ≤ n
  pub puts : Puts before start (below part i) out at

-- what is put below i is not longer than what is put below a later turn
below_length : (part : ℕ → List ℕ) (n i : ℕ) → i ≤ n → length (below part i) ≤ length (below part n)
unfolding below
below_length part zero i h = let e : i ≡ 0 = omega arith in rw e (omega arith)
below_length part (suc n) i h =
    ⊎_elim
    (λ (e : i ≡ suc n). rw e (omega arith))
    (λ (l : i < suc n). omega (arith, below_length part n i (le_of_suc-le-suc l), length-append (below part n) (part n)))
    (eq-or-lt_of_le h)

module _ {bytes : List ℕ} {part : ℕ → List ℕ} {n : ℕ} {before : List ℕ} {start : ℕ} where
  -- before the first part
  pub parts_none : bytes ≡ below part n → Room before start bytes → Parts bytes part n before start 0 before start
  unfolding below
  parts_none e r = record { whole = e; room = r; within = omega arith; puts = puts_none }

  module _ {i : ℕ} {out : List ℕ} {at : ℕ} (p : Parts bytes part n before start i out at) where
    fits : (k : ℕ) → k ≤ n → Room before start (below part k)
    fits k h = record { room = omega (arith, below_length part n k h, ap length p.whole, p.room.room) }

    -- the buffer keeps its length
    pub parts_length : length out ≡ length before
    parts_length = puts_length (fits i p.within) p.puts

    -- there is room for the next part
    pub part_room : i < n → Room out at (part i)
    unfolding below
    part_room h = room_behind (part i) (fits (suc i) h) p.puts

    -- after the next part
    pub part_next : i < n → {after : List ℕ} {next : ℕ} → Puts out at (part i) after next
        → Parts bytes part n before start (i + 1) after next
    unfolding below
    part_next h q =
        record {
          whole = p.whole;
          room = p.room;
          within = omega arith;
          puts = rw add-one (puts_behind (fits i p.within) p.puts q);
        }

    -- after the last part
    pub parts_all : n ≤ i → Puts before start bytes out at
    parts_all h = let e : i ≡ n = omega (arith, p.within) in rw (p.whole, ← e) p.puts

-- ---- the parts of a list

-- all parts but the first, behind the first
below_first : (part : ℕ → List ℕ) (n : ℕ) → below part (suc n) ≡ part 0 ++ below (λ i. part (suc i)) n
unfolding below
below_first part zero = sym (append-nil (part 0))
below_first part (suc n) = rw (below_first part n, append_assoc)

-- a part for each item
pub below_items : {A : Type 0} (f : A → List ℕ) (d : A) (items : List A) → flat_map f items ≡ below (λ i. f (get_or items i d)) (length items)
unfolding below flat_map
below_items f d [] = refl
below_items f d (a ∷ items) = ap (λ l. f a ++ l) (below_items f d items) ∙ sym (below_first (λ i. f (get_or (a ∷ items) i d)) (length items))

-- a number for each item
pub below_each : {A : Type 0} (f : A → ℕ) (d : A) (items : List A) → map f items ≡ below (λ i. f (get_or items i d) ∷ []) (length items)
unfolding below
below_each f d [] = refl
below_each f d (a ∷ items) = ap (λ l. f a ∷ l) (below_each f d items) ∙ sym (below_first (λ i. f (get_or (a ∷ items) i d) ∷ []) (length items))
