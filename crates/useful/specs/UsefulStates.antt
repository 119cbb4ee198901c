-- What `useful_states` answers, and what its parts do.
use Rattle.std.specs.Prelude.{◌≡◌, true, false, cond, ◌↔◌, ℕ, length, Result, Ok, Err}
use Rattle.transducer.specs.Limits.{most_states}
use Rattle.transducer.specs.StateSet.{In, no_states}
use Rattle.transducer.specs.Accepted.{accepted_of}
use Rattle.transducer.specs.Refusals.{invalid, number_of}
use Rattle.transducer.specs.Useful.{UsefulState}
use Rattle.transducer.specs.declared.refusals.Refusal.{Refusal}
use Rattle.transducer.specs.declared.StateSet.{StateSet}
use Rattle.transducer.specs.declared.Transducer.{Transducer}
use Rattle.useful.specs.Sets.{Has}

-- the set that an answer has: with a refusal the empty one
abbrev pub states_of : Result StateSet Refusal → StateSet
states_of (Ok states) = states
states_of (Err refusal) = no_states

-- a refusal with the empty set exactly where the value is not accepted; else a state is in the set exactly when it is useful
pub record UsefulStatesOf (t : Transducer) (r : Result StateSet Refusal) : Type 0 where
  pub number : number_of r ≡ cond (accepted_of t) 0 invalid
  pub refused : accepted_of t ≡ false → states_of r ≡ no_states
  pub members : accepted_of t ≡ true → (q : ℕ) → In (states_of r) q ↔ UsefulState t q
  pub long : length (states_of r).member ≡ most_states

-- ---- the parts

-- the set has exactly the states that are in both
pub record CommonOf (a b : ℕ) (r : StateSet) : Type 0 where
  pub members : (q : ℕ) → In r q ↔ (Has a q × Has b q)
  pub long : length r.member ≡ most_states
