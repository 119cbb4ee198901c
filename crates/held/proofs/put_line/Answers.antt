-- `put_line` meets its contract: four numbers and the output codes are put one after the other. Assumes nothing.
use Rattle.std.proofs.Common.{arith, rules, ◌≡◌, ◌∙◌, sym, List, ℕ, length}
use borrow.Author.Tests.{tests}
use Rattle.buffers.specs.Put.{Room}
use Rattle.buffers.proofs.Parts.{Parts, in_row, parts_none, part_room, part_next, parts_all}
use Rattle.transducer.specs.Limits.{most_outputs}
use Rattle.transducer.specs.declared.OutputCode.{OutputCode}
use Rattle.transducer.specs.declared.Transition.{Transition}
use Rattle.held.specs.Held.{line_bytes}
use Rattle.held.proofs.FillLaws.{mapped}
use Rattle.held.proofs.PartLaws.{line_parts, line_row}
use Rattle.held.proofs.put_line.Goals as goal

-- none of the two parts is put
none : (v : Transition) {out : List ℕ} {start : ℕ} → Room out start (line_bytes v) → Parts (line_bytes v) (in_row (line_parts v)) 2 out start 0 out start
none v r = parts_none (line_row v) r

pub put_bytes-at-requires : goal.put_bytes-at-requires
put_bytes-at-requires c = part_room (none c.args.v c.requires) (omega arith)

pub put_bytes-requires : goal.put_bytes-requires
put_bytes-requires c =
    let one = part_next (none c.args.v c.requires) (omega arith) c.put_bytes-at.ensures in
    let output = c.args.v.output in
    let long : length output ≡ most_outputs = search rules in
    let codes = mapped (λ (x : OutputCode). x.0) (record { 0 = 0 }) 0 output c.map.result (c.map.ensures.items.long ∙ sym long)
    (λ i h. let k = (c.map.ensures.items.at i (record { 0 = 0 }) 0 (omega (arith, c.map.ensures.items.long))).2 in search (rules, tests)) in
    rw codes (part_room one (omega arith))

pub returns : goal.returns
returns c =
    let one = part_next (none c.args.v c.requires) (omega arith) c.put_bytes-at.ensures in
    let output = c.args.v.output in
    let long : length output ≡ most_outputs = search rules in
    let codes = mapped (λ (x : OutputCode). x.0) (record { 0 = 0 }) 0 output c.map.result (c.map.ensures.items.long ∙ sym long)
    (λ i h. let k = (c.map.ensures.items.at i (record { 0 = 0 }) 0 (omega (arith, c.map.ensures.items.long))).2 in search (rules, tests)) in
    parts_all (part_next one (omega arith) (rw codes at c.put_bytes.ensures)) (omega arith)
