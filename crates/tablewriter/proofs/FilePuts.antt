-- The file put part by part: each part has room where the parts before it were put, and behind the last part the file is put. Assumes nothing.
use mathlib.Core.List.{List}
use Prim.Native.Nat.{ℕ}
use native.Mathlib.Omega.{arith}
use Rattle.buffers.specs.Put.{Room, Puts}
use Rattle.buffers.proofs.Parts.{Parts, in_row, parts_none, part_room, part_next, parts_all}
use Rattle.records.specs.Letters.{letter_s, letter_f}
use Rattle.transducer.specs.declared.Transducer.{Transducer}
use Rattle.tablewriter.specs.File.{states_of, state_bytes, transition_bytes_below, header_bytes, write_of}
use Rattle.tablewriter.proofs.FileLaws.{file_parts, file_row}

module _ (t : Transducer) {before : List ℕ} (room : Room before 0 (write_of t)) where
  -- i of the four parts are put
  abbrev Put : ℕ → List ℕ → ℕ → Type 0
  Put = Parts (write_of t) (in_row (file_parts t)) 4 before 0

  none : Put 0 before 0
  none = parts_none (file_row t) room

  pub header_room : Room before 0 (header_bytes t)
  header_room = part_room none (omega arith)

  module _ {out : List ℕ} {at : ℕ} (header_put : Puts before 0 (header_bytes t) out at) where
    one : Put 1 out at
    one = part_next none (omega arith) header_put

    pub starts_room : Room out at (state_bytes letter_s (states_of t.starts))
    starts_room = part_room one (omega arith)

    module _ {out' : List ℕ} {at' : ℕ} (starts_put : Puts out at (state_bytes letter_s (states_of t.starts)) out' at') where
      two : Put 2 out' at'
      two = part_next one (omega arith) starts_put

      pub finals_room : Room out' at' (state_bytes letter_f (states_of t.finals))
      finals_room = part_room two (omega arith)

      module _ {out'' : List ℕ} {at'' : ℕ} (finals_put : Puts out' at' (state_bytes letter_f (states_of t.finals)) out'' at'') where
        three : Put 3 out'' at''
        three = part_next two (omega arith) finals_put

        pub transitions_room : Room out'' at'' (transition_bytes_below t t.count)
        transitions_room = part_room three (omega arith)

        pub file_put : {after : List ℕ} {next : ℕ} → Puts out'' at'' (transition_bytes_below t t.count) after next
            → Puts before 0 (write_of t) after next
        file_put transitions_put = parts_all (part_next three (omega arith) transitions_put) (omega arith)
