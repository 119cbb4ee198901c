-- The reversed transducer: every transition turned, start and final states exchanged. A path of it is a path of the other, backwards.
use Rattle.std.specs.Prelude.{map}
use Rattle.transducer.specs.declared.Transition.{Transition}
use Rattle.transducer.specs.declared.Transducer.{Transducer}

-- the transition that leads the other way
abbrev pub turned_of : Transition → Transition
turned_of v = record { from = v.to; to = v.from; input = v.input; count = v.count; output = v.output }

-- every transition turned, start and final states exchanged; the same states are useful
unfoldable pub reversed_of : Transducer → Transducer
reversed_of t =
    record {
      states = t.states;
      starts = t.finals;
      finals = t.starts;
      count = t.count;
      transitions = map turned_of t.transitions;
      useful = t.useful;
    }
