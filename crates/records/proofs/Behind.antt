-- Bytes behind a record do not count: a byte, a field or a record that lies within a text is read alike where the text goes on. Assumes nothing.
use mathlib.Core.Path.{◌≡◌, refl, ap, ◌∙◌}
use mathlib.Core.List.{List, [], ◌∷◌, ◌++◌}
use Prim.Native.Nat.{ℕ, ◌+◌, ◌*◌, ◌≤◌, ◌<◌}
use native.Mathlib.Omega.{arith}
use borrow.Author.Tests.{lt-ltb, le-leb}
use lib.ListN.{length, take, drop, length-append, length-drop, get_or-append}
use lib.Seq.{take-append-le, drop-append-le}
use Rattle.records.specs.Byte.{byte_fault_of}
use Rattle.records.specs.Field.{columns, field_of}
use Rattle.records.specs.Letters.{record_end, record_size}
use Rattle.records.specs.Reading.{number_at, fields_fault, values_at, record_fault, record_at}
use Rattle.records.specs.declared.reading.Range.{Range}

module _ (text rest : List ℕ) where
  -- the text that goes on is not shorter
  longer : length text ≤ length (text ++ rest)
  longer = omega (arith, length-append text rest)

  -- the columns of a field within the text
  stretch : (at n : ℕ) → at + n ≤ length text → take n (drop at (text ++ rest)) ≡ take n (drop at text)
  stretch at n h =
      ap (take n) (drop-append-le at text rest (omega arith))
      ∙ take-append-le n (drop at text) rest (omega (arith, length-drop at text))

  -- a byte that must stand there
  byte_behind : (at b : ℕ) → at < length text → byte_fault_of (text ++ rest) at b ≡ byte_fault_of text at b
  unfolding byte_fault_of
  byte_behind at b h = rw (lt-ltb at (length (text ++ rest)) (omega (arith, longer)), lt-ltb at (length text) h, get_or-append text rest 0 at h)

  -- a field, held against its range
  pub number_behind : (at : ℕ) (r : Range) → at + columns ≤ length text → number_at (text ++ rest) at r ≡ number_at text at r
  unfolding number_at field_of
  number_behind at r h =
      rw (le-leb (at + columns) (length (text ++ rest)) (omega (arith, longer)), le-leb (at + columns) (length text) h, stretch at columns h)

  -- the first fault of the fields
  fields_behind : (at : ℕ) (ranges : List Range) → at + columns * length ranges ≤ length text
      → fields_fault (text ++ rest) at ranges ≡ fields_fault text at ranges
  unfolding fields_fault
  fields_behind at [] h = refl
  fields_behind at (r ∷ ranges) h = rw (number_behind at r (omega arith), fields_behind (at + columns) ranges (omega arith))

  -- and their values
  values_behind : (at : ℕ) (ranges : List Range) → at + columns * length ranges ≤ length text
      → values_at (text ++ rest) at ranges ≡ values_at text at ranges
  unfolding values_at
  values_behind at [] h = refl
  values_behind at (r ∷ ranges) h = rw (number_behind at r (omega arith), values_behind (at + columns) ranges (omega arith))

  -- the whole record
  pub record_behind : (at letter : ℕ) (ranges : List Range) → at + record_size (length ranges) ≤ length text
      → record_at (text ++ rest) at letter ranges ≡ record_at text at letter ranges
  unfolding record_at record_fault
  record_behind at letter ranges h =
      rw (
        byte_behind at letter (omega arith),
        fields_behind (at + 1) ranges (omega arith),
        values_behind (at + 1) ranges (omega arith),
        byte_behind (at + 1 + columns * length ranges) record_end (omega arith),
      )
