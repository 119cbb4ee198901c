-- l is a transition that leaves the node's state, or there is none left; and for any start states, what the transitions before l lead to from the
-- node is found.
use Rattle.std.proofs.Common.{◌-◌, get_or}
use Rattle.transducer.specs.StateSet.{In}
use Rattle.transducer.specs.declared.StateSet.{StateSet}
use Rattle.worklist.specs.Search.{Scanned}
use Rattle.product.specs.Machine.{Along}
use Rattle.product.specs.Numbers.{no_transition}
use Rattle.wordsearch.specs.Nodes.{state_of, Leads, Search}
use Rattle.wordsearch.proofs.expand.Given as goal

abbrev pub invariant-loop-l : goal.invariant-loop-l
invariant-loop-l g l = record {
  along : Along l.m (state_of (get_or l.initial.found.order l.head 0)) l.l;
  scanned : (starts : StateSet) → Search l.m l.input starts g.row.N l.initial.found
      → Scanned (In starts) (Leads l.m l.input) g.row.N l.initial.found l.found l.head 0 l.l;
}

abbrev pub decreases-loop-l : goal.decreases-loop-l
decreases-loop-l g l = no_transition - l.l
