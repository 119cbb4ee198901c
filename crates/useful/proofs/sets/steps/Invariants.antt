-- The lists have what the transitions below l lead to, one way and the other.
use Rattle.transducer.specs.Reversal.{reversed_of}
use Rattle.useful.proofs.StepLaws.{Led}
use Rattle.useful.proofs.sets.steps.Given as goal

abbrev pub invariant-loop-v : goal.invariant-loop-v
invariant-loop-v l = record { there : Led l.fn.t l.v-index l.ahead; back : Led (reversed_of l.fn.t) l.v-index l.back }
