-- Laws of the listings: how long they are, the parts in which a witness is put, what is printed of table P. Assumes nothing.
use mathlib.Core.Path.{◌≡◌, refl}
use mathlib.Core.Bool.{Bool, true, false, cond}
use mathlib.Core.List.{List, [], ◌∷◌, flat_map, append-nil}
use Prim.Native.Nat.{ℕ, ◌+◌, ◌*◌, ◌≤◌}
use native.Mathlib.Omega.{arith}
use lib.ListN.{length, length-append}
use Rattle.buffers.specs.Put.{Room, Puts}
use Rattle.buffers.proofs.PutsLaws.{room_front, room_behind, puts_behind}
use Rattle.buffers.proofs.Parts.{Parts, below, in_row, parts_none, part_room, part_next, parts_all}
use Rattle.records.specs.Number.{leading_of, leadings_of, columns_of}
use Rattle.records.specs.Record.{listing_columns, fields_of, record_bytes, counted_bytes}
use Rattle.records.proofs.RecordBytes.{length_record, length_counted}
use Rattle.std.specs.Prelude.{Option, Some}
use Rattle.listing.specs.declared.Shown.{Shown}
use Rattle.listing.specs.Shown.{ShownRoom}
use Rattle.listing.specs.Listing.{letter_v, letter_w, letter_a, letter_b, letter_x, letter_y, letter_d, witness_listing, verdict_listing, refusal_listing, translation_listing, pair_bytes, VerdictRoom, TranslationRoom}

-- ---- lengths

pub refusal_length : (number record_number : ℕ) → length (refusal_listing number record_number) ≡ pair_bytes
unfolding refusal_listing
refusal_length number record_number = length_record listing_columns _ _

pub translation_length : (items : List ℕ) → length (translation_listing items) ≡ 2 + listing_columns * (1 + length items)
unfolding translation_listing
translation_length items = length_counted listing_columns _ items

-- there is room for either at the front of the buffer
pub refusal_room : (number record_number : ℕ) {out : List ℕ} → pair_bytes ≤ length out → Room out 0 (refusal_listing number record_number)
refusal_room number record_number h = record { room = rw (refusal_length number record_number) h }

pub translation_room : {items out : List ℕ} → TranslationRoom items out → Room out 0 (translation_listing items)
translation_room {items} r = record { room = omega (arith, translation_length items) }

-- a verdict is not longer than `V` and a witness
verdict_length : (split : Bool) (u : ℕ) (w a b x y : List ℕ) (shared : ℕ)
    → length (verdict_listing split u w a b x y shared)
    ≡ pair_bytes
    + cond split (5 * (2 + listing_columns) + listing_columns * (length w + length a + length b + length x + length y) + 2 + listing_columns) 0
unfolding verdict_listing witness_listing
verdict_length true u w a b x y shared = simp (length-append, length_record, length_counted) (omega arith)
verdict_length false u w a b x y shared = simp (length-append, length_record) (omega arith)

-- there is room for it at the front of the buffer
pub verdict_listing_room : (split : Bool) (u shared : ℕ) {w a b x y out : List ℕ} → VerdictRoom w a b x y out
    → Room out 0 (verdict_listing split u w a b x y shared)
verdict_listing_room true u shared {w} {a} {b} {x} {y} r = record { room = omega (arith, verdict_length true u w a b x y shared) }
verdict_listing_room false u shared {w} {a} {b} {x} {y} r = record { room = omega (arith, verdict_length false u w a b x y shared) }

-- ---- a verdict, put record by record

-- of a single verdict the record `V` is all
pub single_room : (u : ℕ) {out : List ℕ} → pair_bytes ≤ length out → Room out 0 (record_bytes listing_columns letter_v (0 ∷ u ∷ []))
single_room u h = record { room = rw (length_record listing_columns letter_v (0 ∷ u ∷ [])) h }

pub single_put : (u : ℕ) (w a b x y : List ℕ) (shared : ℕ) {next : ℕ} {out after : List ℕ}
    → Puts out 0 (record_bytes listing_columns letter_v (0 ∷ u ∷ [])) after next → Puts out 0 (verdict_listing false u w a b x y shared) after next
unfolding verdict_listing
single_put u w a b x y shared p = rw (append-nil (record_bytes listing_columns letter_v (0 ∷ u ∷ []))) p

-- of a split one the witness comes behind it
pub shown_room : {shown : Option Shown} {s : Shown} {out : List ℕ} → shown ≡ Some s → ShownRoom shown out
    → VerdictRoom s.word.now s.path_a.now s.path_b.now s.output_x.now s.output_y.now out
shown_room e r = rw e at r

module _ (u : ℕ) (w a b x y : List ℕ) (shared : ℕ) {out : List ℕ} (r : Room out 0 (verdict_listing true u w a b x y shared)) where
  pub split_room : Room out 0 (record_bytes listing_columns letter_v (1 ∷ u ∷ []))
  unfolding verdict_listing
  split_room = room_front (record_bytes listing_columns letter_v (1 ∷ u ∷ [])) (witness_listing w a b x y shared) r

  module _ {mid : List ℕ} {next : ℕ} (p : Puts out 0 (record_bytes listing_columns letter_v (1 ∷ u ∷ [])) mid next) where
    pub witness_room : Room mid next (witness_listing w a b x y shared)
    unfolding verdict_listing
    witness_room = room_behind (witness_listing w a b x y shared) r p

    pub split_put : {after : List ℕ} {end : ℕ} → Puts mid next (witness_listing w a b x y shared) after end
        → Puts out 0 (verdict_listing true u w a b x y shared) after end
    unfolding verdict_listing
    split_put q = puts_behind split_room p q

-- ---- the records of a witness, each behind those before it

abbrev pub witness_parts : (w a b x y : List ℕ) → ℕ → List (List ℕ)
witness_parts w a b x y shared =
    counted_bytes listing_columns letter_w w ∷ counted_bytes listing_columns letter_a a ∷ counted_bytes listing_columns letter_b b
    ∷ counted_bytes listing_columns letter_x x ∷ counted_bytes listing_columns letter_y y ∷ record_bytes listing_columns letter_d (shared ∷ []) ∷ []

pub witness_parts_lem : (w a b x y : List ℕ) (shared : ℕ) → witness_listing w a b x y shared ≡ below (in_row (witness_parts w a b x y shared)) 6
unfolding witness_listing below
witness_parts_lem w a b x y shared = refl

-- the first i of them are put
abbrev pub WitnessPut : (w a b x y : List ℕ) → ℕ → List ℕ → ℕ → ℕ → List ℕ → ℕ → Type 0
WitnessPut w a b x y shared out₀ at i out next =
    Parts (witness_listing w a b x y shared) (in_row (witness_parts w a b x y shared)) 6 out₀ at i out next

module _ (w a b x y : List ℕ) (shared : ℕ) {out₀ : List ℕ} {at : ℕ} (r : Room out₀ at (witness_listing w a b x y shared)) where
  none : WitnessPut w a b x y shared out₀ at 0 out₀ at
  none = parts_none (witness_parts_lem w a b x y shared) r

  pub word_room : Room out₀ at (counted_bytes listing_columns letter_w w)
  word_room = part_room none (omega arith)

  module _ {out₁ : List ℕ} {at₁ : ℕ} (p₁ : Puts out₀ at (counted_bytes listing_columns letter_w w) out₁ at₁) where
    word : WitnessPut w a b x y shared out₀ at 1 out₁ at₁
    word = part_next none (omega arith) p₁

    pub path_a_room : Room out₁ at₁ (counted_bytes listing_columns letter_a a)
    path_a_room = part_room word (omega arith)

    module _ {out₂ : List ℕ} {at₂ : ℕ} (p₂ : Puts out₁ at₁ (counted_bytes listing_columns letter_a a) out₂ at₂) where
      path_a : WitnessPut w a b x y shared out₀ at 2 out₂ at₂
      path_a = part_next word (omega arith) p₂

      pub path_b_room : Room out₂ at₂ (counted_bytes listing_columns letter_b b)
      path_b_room = part_room path_a (omega arith)

      module _ {out₃ : List ℕ} {at₃ : ℕ} (p₃ : Puts out₂ at₂ (counted_bytes listing_columns letter_b b) out₃ at₃) where
        path_b : WitnessPut w a b x y shared out₀ at 3 out₃ at₃
        path_b = part_next path_a (omega arith) p₃

        pub output_x_room : Room out₃ at₃ (counted_bytes listing_columns letter_x x)
        output_x_room = part_room path_b (omega arith)

        module _ {out₄ : List ℕ} {at₄ : ℕ} (p₄ : Puts out₃ at₃ (counted_bytes listing_columns letter_x x) out₄ at₄) where
          output_x : WitnessPut w a b x y shared out₀ at 4 out₄ at₄
          output_x = part_next path_b (omega arith) p₄

          pub output_y_room : Room out₄ at₄ (counted_bytes listing_columns letter_y y)
          output_y_room = part_room output_x (omega arith)

          module _ {out₅ : List ℕ} {at₅ : ℕ} (p₅ : Puts out₄ at₄ (counted_bytes listing_columns letter_y y) out₅ at₅) where
            output_y : WitnessPut w a b x y shared out₀ at 5 out₅ at₅
            output_y = part_next output_x (omega arith) p₅

            pub shared_room : Room out₅ at₅ (record_bytes listing_columns letter_d (shared ∷ []))
            shared_room = part_room output_y (omega arith)

            pub witness_put : {out₆ : List ℕ} {at₆ : ℕ} → Puts out₅ at₅ (record_bytes listing_columns letter_d (shared ∷ [])) out₆ at₆
                → Puts out₀ at (witness_listing w a b x y shared) out₆ at₆
            witness_put p₆ = parts_all (part_next output_y (omega arith) p₆) (omega arith)

-- ---- what is printed

-- of table P: split, u = 1, input word 1, path A 0, path B 1, output X 5, output Y 6, nothing in common
pub table_p_lem : verdict_listing true 1 (1 ∷ []) (0 ∷ []) (1 ∷ []) (5 ∷ []) (6 ∷ []) 0
    ≡ 86 ∷ 32 ∷ 32 ∷ 32 ∷ 32 ∷ 32 ∷ 49 ∷ 32 ∷ 32 ∷ 32 ∷ 32 ∷ 32 ∷ 49 ∷ 10  -- V     1     1
    ∷ 87 ∷ 32 ∷ 32 ∷ 32 ∷ 32 ∷ 32 ∷ 49 ∷ 32 ∷ 32 ∷ 32 ∷ 32 ∷ 32 ∷ 49 ∷ 10  -- W     1     1
    ∷ 65 ∷ 32 ∷ 32 ∷ 32 ∷ 32 ∷ 32 ∷ 49 ∷ 32 ∷ 32 ∷ 32 ∷ 32 ∷ 32 ∷ 48 ∷ 10  -- A     1     0
    ∷ 66 ∷ 32 ∷ 32 ∷ 32 ∷ 32 ∷ 32 ∷ 49 ∷ 32 ∷ 32 ∷ 32 ∷ 32 ∷ 32 ∷ 49 ∷ 10  -- B     1     1
    ∷ 88 ∷ 32 ∷ 32 ∷ 32 ∷ 32 ∷ 32 ∷ 49 ∷ 32 ∷ 32 ∷ 32 ∷ 32 ∷ 32 ∷ 53 ∷ 10  -- X     1     5
    ∷ 89 ∷ 32 ∷ 32 ∷ 32 ∷ 32 ∷ 32 ∷ 49 ∷ 32 ∷ 32 ∷ 32 ∷ 32 ∷ 32 ∷ 54 ∷ 10  -- Y     1     6
    ∷ 68 ∷ 32 ∷ 32 ∷ 32 ∷ 32 ∷ 32 ∷ 48 ∷ 10  -- D     0
    ∷ []
unfolding verdict_listing witness_listing counted_bytes record_bytes fields_of flat_map columns_of leadings_of leading_of
table_p_lem = refl
