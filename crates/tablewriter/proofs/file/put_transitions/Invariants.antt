-- The records of the transitions before are put. Assumes nothing.
use Rattle.buffers.proofs.Parts.{Parts}
use Rattle.transducer.specs.Transition.{at}
use Rattle.tablewriter.specs.File.{transition_bytes, transition_bytes_below}
use Rattle.tablewriter.proofs.file.put_transitions.Given as goal

abbrev pub invariant-loop-v : goal.invariant-loop-v
invariant-loop-v l =
    let t = l.fn.t in
    Parts (transition_bytes_below t t.count) (λ i. transition_bytes (at t i)) t.count l.initial.out l.start l.v-index l.out l.at
