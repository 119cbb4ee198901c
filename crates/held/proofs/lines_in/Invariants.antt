use Rattle.std.proofs.Common.{◌≡◌, length, take}
use Rattle.transducer.specs.Limits.{most_transitions}
use Rattle.transducer.specs.Transition.{firsts}
use Rattle.held.specs.Held.{line_at}
use Rattle.held.proofs.lines_in.Given as goal

-- the lines below l are read
abbrev pub invariant-loop-l : goal.invariant-loop-l
invariant-loop-l l = (take l.l l.line-items ≡ firsts l.l (line_at l.held)) × (length l.line-items ≡ most_transitions)
