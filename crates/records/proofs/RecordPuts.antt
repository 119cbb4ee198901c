-- A record put part by part: each part has room where the parts before it were put, and behind the last part the record is put. Assumes nothing.
use mathlib.Core.List.{List, [], ◌∷◌, ◌++◌}
use Prim.Native.Nat.{ℕ}
use native.Mathlib.Omega.{arith}
use Rattle.buffers.specs.Put.{Room, Puts}
use Rattle.buffers.proofs.Parts.{Parts, in_row, parts_none, part_room, part_next, parts_all}
use Rattle.records.specs.Letters.{record_end}
use Rattle.records.specs.Record.{fields_of, record_bytes}
use Rattle.records.proofs.RecordBytes.{record_parts, record_parts_lem, joined_parts, joined_parts_lem}

-- the letter, the fields and the end of a record
module _ (width letter : ℕ) (numbers : List ℕ) {before : List ℕ} {start : ℕ} (room : Room before start (record_bytes width letter numbers)) where
  -- i of the three parts are put
  abbrev Put : ℕ → List ℕ → ℕ → Type 0
  Put = Parts (record_bytes width letter numbers) (in_row (record_parts width letter numbers)) 3 before start

  none : Put 0 before start
  none = parts_none (record_parts_lem width letter numbers) room

  pub record_letter_room : Room before start (letter ∷ [])
  record_letter_room = part_room none (omega arith)

  module _ {out : List ℕ} {at : ℕ} (letter_put : Puts before start (letter ∷ []) out at) where
    one : Put 1 out at
    one = part_next none (omega arith) letter_put

    pub record_fields_room : Room out at (fields_of width numbers)
    record_fields_room = part_room one (omega arith)

    module _ {out' : List ℕ} {at' : ℕ} (fields_put : Puts out at (fields_of width numbers) out' at') where
      two : Put 2 out' at'
      two = part_next one (omega arith) fields_put

      pub record_end_room : Room out' at' (record_end ∷ [])
      record_end_room = part_room two (omega arith)

      pub record_put : {after : List ℕ} {next : ℕ} → Puts out' at' (record_end ∷ []) after next
          → Puts before start (record_bytes width letter numbers) after next
      record_put end_put = parts_all (part_next two (omega arith) end_put) (omega arith)

-- the letter, the fields of two lists and the end
module _ (width letter : ℕ) (front back : List ℕ) {before : List ℕ} {start : ℕ} (room : Room before start (record_bytes width letter (front ++ back))) where
  -- i of the four parts are put
  abbrev Put_joined : ℕ → List ℕ → ℕ → Type 0
  Put_joined = Parts (record_bytes width letter (front ++ back)) (in_row (joined_parts width letter front back)) 4 before start

  none_joined : Put_joined 0 before start
  none_joined = parts_none (joined_parts_lem width letter front back) room

  pub joined_letter_room : Room before start (letter ∷ [])
  joined_letter_room = part_room none_joined (omega arith)

  module _ {out : List ℕ} {at : ℕ} (letter_put : Puts before start (letter ∷ []) out at) where
    one_joined : Put_joined 1 out at
    one_joined = part_next none_joined (omega arith) letter_put

    pub joined_front_room : Room out at (fields_of width front)
    joined_front_room = part_room one_joined (omega arith)

    module _ {out' : List ℕ} {at' : ℕ} (front_put : Puts out at (fields_of width front) out' at') where
      two_joined : Put_joined 2 out' at'
      two_joined = part_next one_joined (omega arith) front_put

      pub joined_back_room : Room out' at' (fields_of width back)
      joined_back_room = part_room two_joined (omega arith)

      module _ {out'' : List ℕ} {at'' : ℕ} (back_put : Puts out' at' (fields_of width back) out'' at'') where
        three_joined : Put_joined 3 out'' at''
        three_joined = part_next two_joined (omega arith) back_put

        pub joined_end_room : Room out'' at'' (record_end ∷ [])
        joined_end_room = part_room three_joined (omega arith)

        pub joined_put : {after : List ℕ} {next : ℕ} → Puts out'' at'' (record_end ∷ []) after next
            → Puts before start (record_bytes width letter (front ++ back)) after next
        joined_put end_put = parts_all (part_next three_joined (omega arith) end_put) (omega arith)
