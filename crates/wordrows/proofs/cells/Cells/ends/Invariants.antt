use Rattle.std.proofs.Common.{ℕ, ◌<◌}
use Rattle.transducer.specs.StateSet.{In}
use Rattle.wordrows.specs.Rows.{Marked}
use Rattle.wordrows.proofs.cells.Cells.ends.Given as goal

-- no final state below q is marked
abbrev pub invariant-loop-q : goal.invariant-loop-q
invariant-loop-q l = (p : ℕ) → p < l.q → Marked l.self l.j p → In l.finals p → ⊥
