-- The transition that is not in use, and the blank transducer.
use Rattle.std.specs.Prelude.{replicate}
use Rattle.transducer.specs.Limits.{most_transitions, most_outputs}
use Rattle.transducer.specs.StateSet.{no_states}
use Rattle.transducer.specs.declared.Transition.{Transition}
use Rattle.transducer.specs.declared.Transducer.{Transducer}

-- a transition that is not in use: every place holds 0
abbrev pub clear_transition : Transition
clear_transition = record { from = 0; to = 0; input = record { 0 = 0 }; count = 0; output = replicate most_outputs (record { 0 = 0 }) }

-- the blank transducer (document 01: the blank table): one state and nothing else
unfoldable pub blank_transducer : Transducer
blank_transducer =
    record {
      states = 1;
      starts = no_states;
      finals = no_states;
      count = 0;
      transitions = replicate most_transitions clear_transition;
      useful = no_states;
    }
