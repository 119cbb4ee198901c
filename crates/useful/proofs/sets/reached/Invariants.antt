-- What is found is reached, and what the states that are done lead to is found. The set of those that are done grows as a number.
use Rattle.std.proofs.Common.{◌-◌, ◌^◌}
use Rattle.transducer.specs.Limits.{most_states}
use Rattle.useful.proofs.ReachLaws.{Going}
use Rattle.useful.proofs.sets.reached.Given as goal

abbrev pub invariant-loop-found : goal.invariant-loop-found
invariant-loop-found l = Going l.list l.from l.found l.done

abbrev pub decreases-loop-found : goal.decreases-loop-found
decreases-loop-found l = 2 ^ most_states - l.done
