-- `write_side` meets its contract: the one behind the other. Assumes nothing.
use Rattle.std.proofs.Common.{◌∙◌, ap, take, arith}
use Rattle.witness.specs.Sides.{is_right, taken_of}
use Rattle.outputs.specs.Outputs.{HeldAt}
use Rattle.outputs.proofs.OutputLaws.{length_codes}
use Rattle.delays.specs.WaysOut.{word_out}
use Rattle.delays.proofs.NeedLaws.{lack_low, held_needs, held_side}
use Rattle.delays.proofs.BufferLaws.{appends_both, appends_as}
use Rattle.delays.proofs.ways.Ways.write_side.Goals as goal
use Rattle.delays.proofs.ways.Ways.write_side.Goals.{After-of}

-- what is at hand begins with the side of the way out
word : (c : After-of)
    → HeldAt c.of.result.now 0 (word_out c.self.inside.written.now c.self.inside.links.link.now c.self.inside.links.label.now (is_right c.args.side) c.args.step.to)
word c =
    let next = rw c.in-Some.is at c.requires.next in
    let held = rw (← c.self.view_is) at next in
    rw c.of.ensures (held_side (is_right c.args.side) {words = record { left = c.in-Some.sides.left.now; right = c.in-Some.sides.right.now }} held)

pub needs-requires-clause-most_outputs_in_bounds :
    goal.needs-requires-clause-most_outputs_in_bounds
needs-requires-clause-most_outputs_in_bounds c =
    let front = rw c.taken.ensures at c.put-to.ensures in
    let room = rw (← c.self.view_is) at c.requires.most_outputs_in_bounds in
    rw (← c.self.view_is)
    (omega (arith, room, c.put-to.auto.word, front.place, length_codes c.self.inside.written.now (taken_of (is_right c.args.side) c.args.step.label)))

pub copy-requires-clause-from : goal.copy-requires-clause-from
copy-requires-clause-from c =
    let counts = rw (← c.self.view_is) at c.requires.counts in
    let lack = c.lack.ensures in
    let low = lack_low (is_right c.args.side) (c.self.invariant.gaps c.args.step.to c.requires.label.1 counts) in
    omega (arith, lack, (word (goal.at.copy-requires-clause-from c).After-of).within, low)

pub copy-requires-clause-to : goal.copy-requires-clause-to
copy-requires-clause-to c =
    let front = rw c.taken.ensures at c.put-to.ensures in
    let room = rw (← c.self.view_is) at c.requires.most_outputs_in_bounds in
    let lack = c.lack.ensures in
    omega (arith, lack, room, c.put-to.auto.word, front.place, length_codes c.self.inside.written.now (taken_of (is_right c.args.side) c.args.step.label))

pub returns-in_default : goal.returns-in_default
returns-in_default c =
    let front = rw c.taken.ensures at c.put-to.ensures in
    let rest = rw (← c.self.view_is) at c.needs.ensures in
    rw (← c.self.view_is) (appends_both front rest)

pub returns : goal.returns
returns c =
    let counts = rw (← c.self.view_is) at c.requires.counts in
    let lack = c.lack.ensures in
    let front = rw c.taken.ensures at c.put-to.ensures in
    let list = c.of.result.now in
    let w = word (goal.at.returns c).After-of in
    let is = c.self.invariant.gaps c.args.step.to c.requires.label.1 counts in
    let e = ap (λ k. take k list) lack ∙ held_needs (is_right c.args.side) is w in
    rw (← c.self.view_is) (appends_both front (appends_as e c.copy.ensures))
