use Rattle.wordrows.proofs.StartLaws.{Starting}
use Rattle.wordrows.proofs.Rows.start.Given as goal

-- the row begins with the start states below q
abbrev pub invariant-loop-q : goal.invariant-loop-q
invariant-loop-q l = Starting l.self.m l.self.written l.self.output l.starts l.q l.row
