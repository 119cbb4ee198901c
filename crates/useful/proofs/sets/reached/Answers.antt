-- `reached` meets its contract. Assumes nothing.
use Rattle.std.proofs.Common.{arith}
use Rattle.useful.proofs.SetLaws.{or_more}
use Rattle.useful.proofs.ReachLaws.{left, going_none, going_more, going_done}
use Rattle.useful.proofs.sets.reached.Goals as goal

pub loop-found-init : goal.loop-found-init
loop-found-init c = going_none c.ranges.from.fits

pub one-done-requires : goal.one-done-requires
one-done-requires c = (left c.loop-found.invariant c.loop-found-test.true).below

pub loop-found-smaller : goal.loop-found-smaller
loop-found-smaller c =
    let more = or_more c.loop-found.done _ (left c.loop-found.invariant c.loop-found-test.true).open_yet in
    rw c.one-done.ensures (omega (arith, more, c.loop-found.invariant.done_small))

pub loop-found-preserved : goal.loop-found-preserved
loop-found-preserved c =
    rw c.one-done.ensures (going_more c.requires c.loop-found.invariant (left c.loop-found.invariant c.loop-found-test.true))

pub returns : goal.returns
returns c = going_done c.loop-found.invariant c.loop-found-test.false
