use Rattle.std.proofs.Common.{length, get_or}
use Rattle.buffers.proofs.Parts.{Parts}
use Rattle.transducer.specs.Paths.{reads}
use Rattle.pathwords.specs.Words.{input_bytes_of}
use Rattle.pathwords.proofs.WritingLaws.{codes_at}
use Rattle.pathwords.proofs.input.Given as goal

-- what the transitions below place i of the path read is put
abbrev pub invariant-loop-l : goal.invariant-loop-l
invariant-loop-l l = Parts (input_bytes_of (reads l.t l.path)) (λ i. codes_at l.t (get_or l.path i 0)) (length l.path) l.fn.word 0 l.l-index l.word l.at
