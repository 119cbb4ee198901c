-- `try_from` meets its contract. Assumes nothing.
use Rattle.std.proofs.Common.{true, false, sym, ap}
use Rattle.delays.proofs.NeedLaws.{none_needed}
use Rattle.equations.specs.Loops.{TestLists}
use Rattle.equations.proofs.testing.Tests.try_from.Goals as goal

pub try_pair-requires-clause-needs : goal.try_pair-requires-clause-needs
try_pair-requires-clause-needs c =
    let m = rw c.self.view_is at c.self.invariant in
    let w = ap (λ (x : TestLists). x.ways) c.self.view_is in
    let even = rw w at c.is_level.ensures in
    let e = even.0 c.if-is_level.true in
    let g = m.grounds.gaps c.args.v c.requires.counts.0 c.requires.counts.1 in
    rw c.hold.ensures (record { lefts = sym (none_needed false g e); rights = sym (none_needed true g e) })
