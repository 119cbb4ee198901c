-- The first places of the output hold the first codes of the values.
use Rattle.std.proofs.Common.{◌≡◌, length, take}
use Rattle.transducer.specs.Limits.{most_outputs}
use Rattle.transducer.specs.Transition.{firsts}
use Rattle.tablereader.specs.Transitions.{code_of}
use Rattle.tablereader.proofs.transitions.transition_of.Given as goal

abbrev pub invariant-loop-j : goal.invariant-loop-j
invariant-loop-j l = record {
  stored : take l.j l.code-items ≡ firsts l.j (code_of l.values);
  long : length l.code-items ≡ most_outputs;
}
