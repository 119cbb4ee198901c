-- `examine` meets its contract. Assumes nothing.
use Rattle.transducer.proofs.AcceptedLaws.{accepted_valid}
use Rattle.functionality.proofs.VerdictLaws.{refusal_none, counted, decides_single}
use Rattle.functionality.proofs.examine.Goals as goal

pub by_input-m-requires : goal.by_input-m-requires
by_input-m-requires c = accepted_valid _ c.requires.t_value

pub returns-in-None-clause-decided : goal.returns-in-None-clause-decided
returns-in-None-clause-decided c =
    let a = c.requires in
    decides_single (refusal_none _ _ a.t_value a.full) (counted a.t_value c.test-failure.ensures.standing.ways.pairs) (rw c.in-None.is at c.test-failure.ensures.tested)
