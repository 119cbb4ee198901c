-- `start` meets its contract. Assumes nothing.
use Rattle.std.proofs.Common.{sym, subst, ◌∙◌, arith}
use Rattle.wordrows.specs.Leads.{Ground}
use Rattle.wordrows.specs.Cells.{Mark}
use Rattle.wordrows.proofs.StartLaws.{starting_more, starting_skip, starting_all}
use Rattle.wordrows.proofs.SweepLaws.{ground_right}
use Rattle.wordrows.proofs.Rows.start.Goals as goal
use Rattle.wordrows.proofs.Rows.start.Goals.{then-contains, else-contains}

pub loop-q-preserved : goal.loop-q-preserved
loop-q-preserved c =
    elim c.if-contains.branch [
      | then-contains w ↦
          rw w.row-is
          (starting_more c.loop-q.invariant (ground_right c.self.view_is c.self.invariant) (omega arith) (sym c.contains.ensures ∙ w.if-contains.true)
          (subst (λ (g : Ground). Mark g.closures c.loop-q.row 0 c.loop-q.q w.mark.new.self) c.self.view_is w.mark.ensures))
      | else-contains w ↦ rw w.row-is (starting_skip c.loop-q.invariant (sym c.contains.ensures ∙ w.if-contains.false))
    ]

pub returns : goal.returns
returns c = starting_all c.loop-q.invariant (omega arith)
