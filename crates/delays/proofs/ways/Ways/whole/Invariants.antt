-- The way out is followed, and written, to its end.
use Rattle.std.proofs.Common.{length}
use Rattle.worklist.specs.Links.{way_from}
use Rattle.witness.specs.Sides.{is_right}
use Rattle.delays.proofs.PendingLaws.{Pending}
use Rattle.delays.proofs.ways.Ways.whole.Given as goal

abbrev pub invariant-loop-next : goal.invariant-loop-next
invariant-loop-next l =
    Pending l.self-inside.written.now l.self-inside.links.link.now l.self-inside.links.label.now (is_right l.side) l.v l.fn.word 0 l.word l.to l.node

abbrev pub decreases-loop-next : goal.decreases-loop-next
decreases-loop-next l = length (way_from l.self-inside.links.link.now l.self-inside.links.label.now l.node)
