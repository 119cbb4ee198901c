-- `passes` meets its contract. Assumes nothing.
use Rattle.std.proofs.Common.{take}
use Rattle.delays.proofs.NeedLaws.{passes_when_held, held_level, fails_when_uneven}
use Rattle.delays.proofs.ways.Ways.passes.Goals as goal

pub returns-then-needs-eq0-2-clause-passes : goal.returns-then-needs-eq0-2-clause-passes
returns-then-needs-eq0-2-clause-passes c =
    let known = c.self.invariant.gaps c.args.step.to c.requires.label.1 c.if-gap-eq0.false in
    let n = c.needs.inside in
    let same = rw (c.taken.ensures, c.taken-then-needs-eq0-2.ensures) at c.same.ensures in
    rw (← c.self.view_is, ← c.needs.view_is)
    (passes_when_held (held_level n.right n.left n.right_len n.left_len known c.if-needs-eq0.true c.if-needs-eq0-2.true c.if-gap-eq-LEVEL.true same) c.if-gap-eq0.false)

pub returns-then-not-even-clause-passes : goal.returns-then-not-even-clause-passes
returns-then-not-even-clause-passes c =
    let known = c.self.invariant.gaps c.args.step.to c.requires.label.1 c.if-gap-eq0.false in
    let n = c.needs.inside in
    let even = rw (← c.self.view_is, ← c.needs.view_is) at c.even.ensures in
    rw (← c.self.view_is, ← c.needs.view_is)
    (fails_when_uneven (take n.right_len n.right) (take n.left_len n.left) known c.if-gap-eq0.false even c.if-not-even.true)

pub holds-requires-clause-is : goal.holds-requires-clause-is
holds-requires-clause-is c = rw (← c.self.view_is) (c.self.invariant.gaps c.args.step.to c.requires.label.1 c.if-gap-eq0.false)

pub returns-clause-passes : goal.returns-clause-passes
returns-clause-passes c =
    let held = rw (← c.self.view_is, ← c.needs.view_is) at c.holds.ensures.held in
    rw (← c.self.view_is, ← c.needs.view_is) (passes_when_held held c.if-gap-eq0.false)
