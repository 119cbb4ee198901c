-- The places before `head` are done, and no path ends at one of their nodes.
use Rattle.std.proofs.Common.{ℕ, ◌-◌, ◌<◌, get_or}
use Rattle.transducer.specs.StateSet.{In}
use Rattle.worklist.specs.Search.{Working}
use Rattle.wordsearch.specs.Limits.{most_nodes}
use Rattle.wordsearch.specs.Nodes.{Leads, Ends}
use Rattle.wordsearch.proofs.search.Given as goal

abbrev pub invariant-loop-head : goal.invariant-loop-head
invariant-loop-head g l = record {
  working : Working (In l.fn.starts) (Leads l.m l.input) g.row.N l.found l.head;
  none : (i : ℕ) → i < l.head → Ends l.finals l.input (get_or l.found.order i 0) → ⊥;
}

abbrev pub decreases-loop-head : goal.decreases-loop-head
decreases-loop-head g l = most_nodes - l.head
