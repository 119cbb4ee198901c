-- The start states below q are found, and nothing else.
use Rattle.transducer.specs.StateSet.{In}
use Rattle.worklist.specs.Search.{Rooted}
use Rattle.wordsearch.proofs.roots.Given as goal

abbrev pub invariant-loop-q : goal.invariant-loop-q
invariant-loop-q g l = Rooted (In l.starts) g.row.N l.found l.q
