-- The loop's invariant: the places below i have the lines of their steps, the others are clear.
use Rattle.series.specs.Parts.{Written}
use Rattle.series.proofs.table.transitions.Given as goal

abbrev pub invariant-loop-i : goal.invariant-loop-i
invariant-loop-i l = Written l.series.first.now l.series.second.now l.series.product.left.now l.series.product.right.now l.states l.list l.i l.lines
