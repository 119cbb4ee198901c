-- `rest` has just the words of the way out of the pair i; the pairs with a flag pass, and v has one, or is i itself.
use Rattle.std.proofs.Common.{length}
use Rattle.worklist.specs.Links.{way_from}
use Rattle.delays.specs.Needs.{WayWords}
use Rattle.equations.proofs.AlongLaws.{Along}
use Rattle.equations.proofs.testing.Tests.try_way.Given as goal

abbrev pub invariant-loop-tested : goal.invariant-loop-tested
invariant-loop-tested l =
    record {
      along : Along l.self l.v l.rest.left.now l.rest.right.now l.tested l.i;
      words : WayWords l.self.ways.written l.self.ways.link l.self.ways.label l.i l.rest.left.now l.rest.right.now;
    }

abbrev pub decreases-loop-tested : goal.decreases-loop-tested
decreases-loop-tested l = length (way_from l.self.ways.link l.self.ways.label l.i)
