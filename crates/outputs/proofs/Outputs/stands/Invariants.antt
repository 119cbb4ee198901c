use Rattle.std.proofs.Common.{◌+◌, ◌*◌, ◌≤◌, length, get_or}
use Rattle.transducer.specs.Transition.{firsts}
use Rattle.pathwords.specs.Words.{Stands}
use Rattle.outputs.specs.Outputs.{entry}
use Rattle.outputs.proofs.Outputs.stands.Given as goal

-- there is room for all codes, and the first j of them stand there
abbrev pub invariant-loop-j : goal.invariant-loop-j
invariant-loop-j l = (l.at + l.count ≤ length l.word) × Stands l.word l.at (firsts l.j (λ i. get_or l.self (l.l * entry + 1 + i) 0))
