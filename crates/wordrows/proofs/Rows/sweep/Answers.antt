-- `sweep` meets its contract. Assumes nothing.
use Rattle.std.proofs.Common.{length, sym, ap, ◌∙◌, arith}
use borrow.Author.Tests.{ltb-false}
use Rattle.wordrows.specs.Leads.{Ground}
use Rattle.wordrows.proofs.SweepLaws.{ground_right, sweeping_none, sweeping_more, sweeping_skip, sweeping_all}
use Rattle.wordrows.proofs.Rows.sweep.Goals as goal
use Rattle.wordrows.proofs.Rows.sweep.Goals.{then-has_mark, else-has_mark}

pub loop-j-init : goal.loop-j-init
loop-j-init c = sweeping_none c.requires.row c.requires.blank

pub loop-j-preserved : goal.loop-j-preserved
loop-j-preserved c =
    elim c.if-has_mark.branch [
      | then-has_mark w ↦ rw (w.here-is, w.next-is) (sweeping_more c.loop-j.invariant w.cell.ensures)
      | else-has_mark w ↦
          rw (w.here-is, w.next-is) (sweeping_skip c.loop-j.invariant (omega (arith, ltb-false _ _ (sym c.has_mark.ensures ∙ w.if-has_mark.false))))
    ]

pub returns : goal.returns
returns c =
    let lent = ground_right c.self.view_is c.self.invariant in
    sweeping_all c.loop-j.invariant lent (omega (arith, ap (λ (g : Ground). length g.output) c.self.view_is)) c.requires.blank
