-- `hold` meets its contract: the number of states, three sets, the count and the lines are put one after the other. Assumes nothing.
use Rattle.std.proofs.Common.{arith, refl, ◌≡◌, ◌∙◌, ◌<◌, ◌^◌, [], ◌∷◌, ◌%◌, ◌/◌, List, ℕ, ◌≤◌, length}
use Rattle.buffers.proofs.Parts.{Parts, in_row, parts_none, part_room, part_next, parts_all}
use Rattle.transducer.specs.Valid.{Shaped}
use Rattle.transducer.specs.declared.Transducer.{Transducer}
use Rattle.held.specs.Held.{held_size, held_of}
use Rattle.held.proofs.PartLaws.{held_parts, held_row, held_size_lem}
use Rattle.held.proofs.hold.Goals as goal

-- none of the six parts is put
none : {t : Transducer} {out : List ℕ} → Shaped t → held_size ≤ length out → Parts (held_of t) (in_row (held_parts t)) 6 out 0 0 out 0
none {t} s h = parts_none (held_row t) (record { room = omega (arith, held_size_lem t s) })

-- the two bytes of a count, the lower first
two-bytes : (n : ℕ) → n < 2 ^ 16 → (n % 256 ∷ n / 256 % 256 ∷ []) ≡ (n % 256 ∷ n / 256 ∷ [])
two-bytes n h = let high : n / 256 % 256 ≡ n / 256 = omega arith in rw high refl

pub put_set-at-requires : goal.put_set-at-requires
put_set-at-requires c =
    let one = part_next (none c.requires.shaped c.requires.held_size_in_bounds) (omega arith) c.put_byte-at.ensures in
    part_room one (omega arith)

pub put_set-at-requires-2 : goal.put_set-at-requires-2
put_set-at-requires-2 c =
    let one = part_next (none c.requires.shaped c.requires.held_size_in_bounds) (omega arith) c.put_byte-at.ensures in
    let two = part_next one (omega arith) c.put_set-at.ensures in
    part_room two (omega arith)

pub put_set-at-requires-3 : goal.put_set-at-requires-3
put_set-at-requires-3 c =
    let one = part_next (none c.requires.shaped c.requires.held_size_in_bounds) (omega arith) c.put_byte-at.ensures in
    let two = part_next one (omega arith) c.put_set-at.ensures in
    let three = part_next two (omega arith) c.put_set-at-2.ensures in
    part_room three (omega arith)

pub put_bytes-at-requires : goal.put_bytes-at-requires
put_bytes-at-requires c =
    let one = part_next (none c.requires.shaped c.requires.held_size_in_bounds) (omega arith) c.put_byte-at.ensures in
    let two = part_next one (omega arith) c.put_set-at.ensures in
    let three = part_next two (omega arith) c.put_set-at-2.ensures in
    let four = part_next three (omega arith) c.put_set-at-3.ensures in
    let count : c.to_le_bytes.result ≡ c.args.t.count % 256 ∷ c.args.t.count / 256 ∷ [] = c.to_le_bytes.ensures ∙ two-bytes c.args.t.count (omega arith) in
    rw count (part_room four (omega arith))

pub put_lines-requires-clause-room : goal.put_lines-requires-clause-room
put_lines-requires-clause-room c =
    let one = part_next (none c.requires.shaped c.requires.held_size_in_bounds) (omega arith) c.put_byte-at.ensures in
    let two = part_next one (omega arith) c.put_set-at.ensures in
    let three = part_next two (omega arith) c.put_set-at-2.ensures in
    let four = part_next three (omega arith) c.put_set-at-3.ensures in
    let count : c.to_le_bytes.result ≡ c.args.t.count % 256 ∷ c.args.t.count / 256 ∷ [] = c.to_le_bytes.ensures ∙ two-bytes c.args.t.count (omega arith) in
    let five = part_next four (omega arith) (rw count at c.put_bytes-at.ensures) in
    part_room five (omega arith)

pub returns : goal.returns
returns c =
    let one = part_next (none c.requires.shaped c.requires.held_size_in_bounds) (omega arith) c.put_byte-at.ensures in
    let two = part_next one (omega arith) c.put_set-at.ensures in
    let three = part_next two (omega arith) c.put_set-at-2.ensures in
    let four = part_next three (omega arith) c.put_set-at-3.ensures in
    let count : c.to_le_bytes.result ≡ c.args.t.count % 256 ∷ c.args.t.count / 256 ∷ [] = c.to_le_bytes.ensures ∙ two-bytes c.args.t.count (omega arith) in
    let five = part_next four (omega arith) (rw count at c.put_bytes-at.ensures) in
    (parts_all (part_next five (omega arith) c.put_lines.ensures) (omega arith)).buffer
