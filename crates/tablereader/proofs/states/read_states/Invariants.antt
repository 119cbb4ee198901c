-- Reading what is left, after what was read, gives what all the records give.
use Rattle.std.proofs.Common.{◌≡◌, ◌+◌, ◌-◌, ◌*◌}
use Rattle.tablereader.specs.Record.{state_size}
use Rattle.tablereader.specs.States.{read_states_of, states_from}
use Rattle.tablereader.proofs.states.read_states.Given as goal

abbrev pub invariant-loop-i : goal.invariant-loop-i
invariant-loop-i l =
    read_states_of (l.count - l.i) l.text l.letter l.n (l.start + state_size * l.i) l.low (l.first + l.i) l.outcome l.set
    ≡ states_from l.count l.text l.letter l.n l.start l.first
