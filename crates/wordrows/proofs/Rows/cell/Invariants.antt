use Rattle.wordrows.specs.Cells.{Filled}
use Rattle.wordrows.proofs.Rows.cell.Given as goal

-- the states below q are done
abbrev pub invariant-loop-q : goal.invariant-loop-q
invariant-loop-q l = Filled l.self.m l.self.written l.self.output l.code l.j l.q l.initial.here l.initial.next l.here l.next
