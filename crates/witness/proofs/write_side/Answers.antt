-- `write_side` meets its contract. Assumes nothing.
use Rattle.witness.proofs.SideLaws.{ends, passes, takes}
use Rattle.witness.proofs.write_side.Goals as goal
use Rattle.witness.proofs.write_side.Goals.{then-l-ne-NO_TRANSITION, else-l-ne-NO_TRANSITION}

pub loop-label-preserved : goal.loop-label-preserved
loop-label-preserved c =
    elim c.if-l-ne-NO_TRANSITION.branch [
      | then-l-ne-NO_TRANSITION w ↦
          rw (w.path-is, w.at-is)
          (takes _ _ _ c.loop-label.invariant _ c.loop-label-test.true c.taken-l.ensures w.if-l-ne-NO_TRANSITION.true)
      | else-l-ne-NO_TRANSITION w ↦
          rw (w.path-is, w.at-is)
          (passes _ _ _ c.loop-label.invariant _ c.loop-label-test.true c.taken-l.ensures w.if-l-ne-NO_TRANSITION.false)
    ]

pub returns : goal.returns
returns c = ends _ _ _ c.loop-label.invariant c.loop-label-test.false
