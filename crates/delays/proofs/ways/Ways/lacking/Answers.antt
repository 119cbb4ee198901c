-- `lacking` meets its contract. Assumes nothing.
use Rattle.std.proofs.Common.{true, false, ap, length, arith}
use Rattle.delays.proofs.NeedLaws.{held_needs, needs_few}
use Rattle.delays.proofs.ways.Ways.lacking.Goals as goal

pub returns-clause-left : goal.returns-clause-left
returns-clause-left c =
    let counts = rw (← c.self.view_is) at c.requires.counts in
    let held = rw (← c.self.view_is) at c.requires.held in
    rw (← c.self.view_is, c.lack-m.ensures) (held_needs false (c.self.invariant.gaps c.args.v counts.0 counts.1) held.lefts)

pub returns-clause-right : goal.returns-clause-right
returns-clause-right c =
    let counts = rw (← c.self.view_is) at c.requires.counts in
    let held = rw (← c.self.view_is) at c.requires.held in
    rw (← c.self.view_is, c.lack-n.ensures) (held_needs true (c.self.invariant.gaps c.args.v counts.0 counts.1) held.rights)

pub returns-clause-few : goal.returns-clause-few
returns-clause-few c =
    let counts = rw (← c.self.view_is) at c.requires.counts in
    let held = rw (← c.self.view_is) at c.requires.held in
    let g = c.self.invariant in
    let led = g.ways c.args.v counts.0 counts.1 in
    let is = g.gaps c.args.v counts.0 counts.1 in
    let left = ap length (held_needs false is held.lefts) in
    let right = ap length (held_needs true is held.rights) in
    rw (c.lack-m.ensures, c.lack-n.ensures) (omega (arith, left, needs_few g.lists false led), omega (arith, right, needs_few g.lists true led))
