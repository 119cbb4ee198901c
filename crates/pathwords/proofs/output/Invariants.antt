use Rattle.std.proofs.Common.{length, get_or}
use Rattle.buffers.proofs.Parts.{Parts}
use Rattle.transducer.specs.Transition.{bytes_of}
use Rattle.transducer.specs.Paths.{writes}
use Rattle.pathwords.proofs.WritingLaws.{bytes_at}
use Rattle.pathwords.proofs.output.Given as goal

-- what the transitions below place i of the path write is put
abbrev pub invariant-loop-l : goal.invariant-loop-l
invariant-loop-l l = Parts (bytes_of (writes l.t l.path)) (λ i. bytes_at l.t (get_or l.path i 0)) (length l.path) l.fn.out 0 l.l-index l.out l.at
