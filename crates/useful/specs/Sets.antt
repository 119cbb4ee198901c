-- Sets of states as numbers: the state q is in a set where the binary digit q of its number is 1.
use Rattle.std.specs.Prelude.{◌≡◌, Bool, List, ◌↔◌, ℕ, ◌/◌, ◌%◌, ◌^◌, ◌<◌, eqb, length, get_or}
use Rattle.transducer.specs.Limits.{most_states}
use Rattle.transducer.specs.Walks.{Edge}
use Rattle.transducer.specs.declared.Transducer.{Transducer}

-- whether q is in the set
abbrev pub has_of : ℕ → ℕ → Bool
has_of s q = eqb (s / 2 ^ q % 2) 1

-- q is in the set
pub record Has (s q : ℕ) : Type 0 where
  pub digit : s / 2 ^ q % 2 ≡ 1

-- a set for each state
pub record Sets (list : List ℕ) : Type 0 where
  pub long : length list ≡ most_states
  pub small : (p : ℕ) → get_or list p 0 < 2 ^ most_states

-- the list has for each state the set of the states that transitions of t lead to from it
pub record StepsOf (t : Transducer) (list : List ℕ) : Type 0 where
  pub sets : Sets list
  pub leads : (p q : ℕ) → Has (get_or list p 0) q ↔ ((l : ℕ) × Edge t l p q)

-- q is in the set s, or in that of a state that is reached
pub data Reached (list : List ℕ) (s : ℕ) : ℕ → Type 0 where
  start : {q : ℕ} → Has s q → Reached list s q
  step : {p q : ℕ} → Reached list s p → Has (get_or list p 0) q → Reached list s q
