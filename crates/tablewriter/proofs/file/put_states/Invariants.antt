-- The records of the states below q are put. Assumes nothing.
use Rattle.buffers.proofs.Parts.{Parts}
use Rattle.transducer.specs.Limits.{most_states}
use Rattle.tablewriter.specs.File.{state_at, states_of, state_bytes}
use Rattle.tablewriter.proofs.file.put_states.Given as goal

abbrev pub invariant-loop-q : goal.invariant-loop-q
invariant-loop-q l =
    Parts (state_bytes l.letter (states_of l.s)) (λ q. state_bytes l.letter (state_at l.s q)) most_states l.initial.out l.start l.q l.out l.at
