-- The refusals of a record are refusals of a file: their numbers are at most that of the last one. Assumes nothing.
use mathlib.Core.Bool.{Bool, true, false, cond, ◌&&◌}
use mathlib.Core.List.{List, [], ◌∷◌}
use Prim.Native.Nat.{ℕ, ◌+◌, ◌*◌, ◌≤◌}
use native.Mathlib.Omega.{arith}
use lib.Dec.{eqb, leb, ltb}
use lib.ListN.{length, get_or, take, drop}
use Rattle.std.specs.Prelude.{Option, None, Some, Result, Ok, Err}
use Rattle.std.specs.Option.{option_or}
use Rattle.transducer.specs.Refusals.{bytes_follow, refusal_number}
use Rattle.transducer.specs.declared.refusals.Refusal.{Refusal}
use Rattle.transducer.specs.declared.refusals.Refusal.TheVariants.{Ended, WrongByte, OutOfRange, NotRising}
use Rattle.records.specs.Byte.{byte_fault_of}
use Rattle.records.specs.Field.{columns, part_of, part_field, field_of}
use Rattle.records.specs.Letters.{record_end}
use Rattle.records.specs.Reading.{in_range, number_at, fields_fault, record_fault}
use Rattle.records.specs.declared.field.Part.{Part}
use Rattle.records.specs.declared.field.Part.TheVariants as part
use Rattle.records.specs.declared.reading.Number.{Number}
use Rattle.records.specs.declared.reading.Range.{Range}

-- the refusal, where there is one, is one of a file
abbrev pub OfFile : Option Refusal → Type 0
OfFile None = Unit {0}
OfFile (Some refusal) = refusal_number refusal ≤ bytes_follow

pub or_of_file : (a b : Option Refusal) → OfFile a → OfFile b → OfFile (option_or a b)
or_of_file None b h k = k
or_of_file (Some refusal) b h k = h

byte_of_file : (text : List ℕ) (at b : ℕ) → OfFile (byte_fault_of text at b)
unfolding byte_fault_of
byte_of_file text at b = go (ltb at (length text)) (eqb (get_or text at 0) b)
  where
    go : (x y : Bool) → OfFile (cond x (cond y None (Some WrongByte)) (Some Ended))
    go true true = tt
    go true false = omega arith
    go false y = omega arith

-- the same of what stands in a field
abbrev FieldOfFile : Result ℕ Refusal → Type 0
FieldOfFile (Ok v) = Unit {0}
FieldOfFile (Err refusal) = refusal_number refusal ≤ bytes_follow

field_of_file : (text : List ℕ) (at : ℕ) → FieldOfFile (field_of text at)
unfolding field_of
field_of_file text at = go (leb (at + columns) (length text)) (part_of part.Blank (take columns (drop at text)))
  where
    go : (x : Bool) (p : Part) → FieldOfFile (cond x (part_field p) (Err Ended))
    go true part.Blank = omega arith
    go true (part.Number v) = tt
    go true part.Bad = omega arith
    go false p = omega arith

in_range_of_file : (f : Result ℕ Refusal) (r : Range) → FieldOfFile f → OfFile (in_range f r).fault
in_range_of_file (Err refusal) r h = h
in_range_of_file (Ok v) r h = go (leb r.low v) (leb v r.high) (leb r.least v)
  where
    go : (x y z : Bool)
        → OfFile
        (cond {A = Number} (x && y) (cond z (record { fault = None; value = v }) (record { fault = Some NotRising; value = r.low }))
        (record { fault = Some OutOfRange; value = r.low })).fault
    go true true true = tt
    go true true false = omega arith
    go true false z = omega arith
    go false y z = omega arith

fields_of_file : (text : List ℕ) (at : ℕ) (ranges : List Range) → OfFile (fields_fault text at ranges)
unfolding fields_fault number_at
fields_of_file text at [] = tt
fields_of_file text at (r ∷ ranges) =
    or_of_file _ _ (in_range_of_file (field_of text at) r (field_of_file text at)) (fields_of_file text (at + columns) ranges)

pub record_of_file : (text : List ℕ) (at letter : ℕ) (ranges : List Range) → OfFile (record_fault text at letter ranges)
unfolding record_fault
record_of_file text at letter ranges =
    or_of_file _ _ (or_of_file _ _ (byte_of_file text at letter) (fields_of_file text (at + 1) ranges))
    (byte_of_file text (at + 1 + columns * length ranges) record_end)
