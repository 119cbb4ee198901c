use Rattle.std.proofs.Common.{length}
use Rattle.buffers.proofs.Parts.{Parts}
use Rattle.transducer.specs.Transition.{at}
use Rattle.held.specs.Held.{line_bytes, lines_bytes}
use Rattle.held.proofs.put_lines.Given as goal

-- the lines below l are put
abbrev pub invariant-loop-v : goal.invariant-loop-v
invariant-loop-v l =
    Parts (lines_bytes l.fn.t.transitions) (λ i. line_bytes (at l.fn.t i)) (length l.fn.t.transitions) l.initial.out l.start l.v-index l.out l.at
