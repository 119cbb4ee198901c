-- The states below q that are in the set are in the number, and no other.
use Rattle.std.proofs.Common.{◌↔◌, ℕ, ◌<◌}
use Rattle.transducer.specs.StateSet.{In}
use Rattle.transducer.specs.declared.StateSet.{StateSet}
use Rattle.useful.specs.Sets.{Has}
use Rattle.useful.proofs.sets.number.Given as goal

-- of the states below n the number has those that are in the set
pub record Below (s : StateSet) (n set : ℕ) : Type 0 where
  pub members : (q : ℕ) → Has set q ↔ ((q < n) × In s q)

abbrev pub invariant-loop-q : goal.invariant-loop-q
invariant-loop-q l = Below l.fn.s l.q l.set
