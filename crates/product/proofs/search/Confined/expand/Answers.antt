-- `expand` meets its contract. Assumes nothing.
use Rattle.std.proofs.Common.{arith}
use Rattle.worklist.proofs.Stages.{scanned_none}
use Rattle.product.proofs.StepLaws.{past_first_row}
use Rattle.product.proofs.ConfinedLaws.{scanned_past, scanned_row}
use Rattle.product.proofs.search.Confined.expand.Goals as goal

pub loop-row-init : goal.loop-row-init
loop-row-init c =
    let r = c.requires in
    let f = rw c.node-pair.ensures at c.first_row-row.ensures in
    record {
      most = f.most;
      along = f.has;
      scan = scanned_past (scanned_none (omega arith) r.grown) (past_first_row r.lent.left_machine r.lent.right_machine f);
    }

pub loop-row-preserved : goal.loop-row-preserved
loop-row-preserved c =
    let f = rw c.node-pair.ensures at c.row_after-row.ensures in
    record {
      most = f.most;
      along = f.has;
      scan = scanned_row c.loop-row.row c.requires c.loop-row.invariant.scan c.expand_row.ensures f;
    }
