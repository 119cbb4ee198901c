use Rattle.std.proofs.Common.{◌≡◌, ◌+◌, Bool, List, ℕ, length, take, eqb, get_or}
use Rattle.transducer.specs.Limits.{most_states}
use Rattle.transducer.specs.Transition.{firsts}
use Rattle.held.proofs.set_at.Given as goal

-- the flag of q
abbrev pub flag : List ℕ → ℕ → ℕ → Bool
flag held at q = eqb (get_or held (at + q) 0) 1

-- the flags below q are read
abbrev pub invariant-loop-q : goal.invariant-loop-q
invariant-loop-q l = (take l.q l.inside-items ≡ firsts l.q (flag l.held l.at)) × (length l.inside-items ≡ most_states)
