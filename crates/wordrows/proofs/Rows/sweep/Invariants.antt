use Rattle.wordrows.proofs.SweepLaws.{Sweeping}
use Rattle.wordrows.proofs.Rows.sweep.Given as goal

-- the cells below j are done
abbrev pub invariant-loop-j : goal.invariant-loop-j
invariant-loop-j l = Sweeping l.self.m l.self.written l.self.output l.code l.j l.initial.here l.initial.next l.here l.next
