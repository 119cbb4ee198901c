use Rattle.std.proofs.Common.{◌-◌}
use Rattle.product.specs.Machine.{Along}
use Rattle.product.specs.Numbers.{no_transition}
use Rattle.wordrows.proofs.SweepLaws.{Expanding}
use Rattle.wordrows.proofs.Rows.expand.Given as goal

-- l is a transition that leaves the state q, or none is left; and those before l are done
abbrev pub invariant-loop-l : goal.invariant-loop-l
invariant-loop-l l =
    Along l.self.m l.q l.l
    × Expanding l.self.m l.self.written l.self.output l.code l.j l.q l.l l.initial.here l.initial.next l.here l.next

abbrev pub decreases-loop-l : goal.decreases-loop-l
decreases-loop-l l = no_transition - l.l
