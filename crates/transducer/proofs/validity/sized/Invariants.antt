-- The loop's invariant: the arrays of the first transitions have their lengths.
use Rattle.std.proofs.Common.{◌≡◌, ℕ, ◌<◌, length}
use Rattle.transducer.specs.Limits.{most_outputs}
use Rattle.transducer.specs.Transition.{at}
use Rattle.transducer.proofs.validity.sized.Given as goal

abbrev pub invariant-loop-v : goal.invariant-loop-v
invariant-loop-v l = (k : ℕ) → k < l.v-index → length (at l.fn.t k).output ≡ most_outputs
