use Rattle.std.proofs.Common.{◌≡◌, length, take}
use Rattle.transducer.specs.Limits.{most_outputs}
use Rattle.transducer.specs.Transition.{firsts}
use Rattle.tablereader.specs.Transitions.{code_of}
use Rattle.held.proofs.line_in.Given as goal

-- the first places of the output hold the first codes of the line
abbrev pub invariant-loop-j : goal.invariant-loop-j
invariant-loop-j l = (take l.j l.code-items ≡ firsts l.j (code_of l.line)) × (length l.code-items ≡ most_outputs)
