-- `cell` meets its contract. Assumes nothing.
use Rattle.std.proofs.Common.{sym, ◌∙◌, arith}
use borrow.Author.Tests.{ltb-false}
use Rattle.wordrows.proofs.SweepLaws.{filled_none, filled_more, filled_skip}
use Rattle.wordrows.proofs.Rows.cell.Goals as goal
use Rattle.wordrows.proofs.Rows.cell.Goals.{then-has, else-has}

pub loop-q-init : goal.loop-q-init
loop-q-init c = filled_none c.requires

pub loop-q-preserved : goal.loop-q-preserved
loop-q-preserved c =
    elim c.if-has.branch [
      | then-has w ↦ rw (w.here-is, w.next-is) (filled_more c.loop-q.invariant w.expand.ensures)
      | else-has w ↦
          rw (w.here-is, w.next-is) (filled_skip c.loop-q.invariant (omega (arith, ltb-false _ _ (sym c.has.ensures ∙ w.if-has.false))))
    ]
