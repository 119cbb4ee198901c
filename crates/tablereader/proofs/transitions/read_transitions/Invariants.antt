-- Reading what is left, after what was read, gives what all the records give.
use Rattle.std.proofs.Common.{◌≡◌, ◌+◌, ◌-◌, ◌*◌, ◌≤◌}
use Rattle.tablereader.specs.Record.{transition_size}
use Rattle.tablereader.specs.Transitions.{read_transitions_of, transitions_from}
use Rattle.tablereader.proofs.transitions.read_transitions.Given as goal

abbrev pub invariant-loop-i : goal.invariant-loop-i
invariant-loop-i l = record {
  reads :
      read_transitions_of (l.count - l.i) l.text l.n l.at (l.first + l.i) l.i l.outcome l.transitions
      ≡ transitions_from l.count l.text l.n l.start l.first;
  place : l.at ≤ l.start + transition_size * l.i;
}
