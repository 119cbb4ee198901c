-- The first k codes stand behind the place `at`.
use Rattle.delays.proofs.BufferLaws.{Copied}
use Rattle.delays.proofs.equation.copy.Given as goal

abbrev pub invariant-loop-k : goal.invariant-loop-k
invariant-loop-k l = Copied l.list l.fn.word l.at l.word l.k
