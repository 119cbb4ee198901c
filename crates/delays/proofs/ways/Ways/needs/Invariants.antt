-- The way out is followed, and written, until there is enough.
use Rattle.std.proofs.Common.{length}
use Rattle.worklist.specs.Links.{way_from}
use Rattle.witness.specs.Sides.{is_right}
use Rattle.delays.proofs.PendingLaws.{Pending}
use Rattle.delays.proofs.ways.Ways.needs.Given as goal

abbrev pub invariant-loop-to : goal.invariant-loop-to
invariant-loop-to l =
    Pending l.self-inside.written.now l.self-inside.links.link.now l.self-inside.links.label.now (is_right l.side) l.v l.fn.word l.at l.word l.to l.node

abbrev pub decreases-loop-to : goal.decreases-loop-to
decreases-loop-to l = length (way_from l.self-inside.links.link.now l.self-inside.links.label.now l.node)
