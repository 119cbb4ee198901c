-- `round` meets its contract. Assumes nothing.
use Rattle.equations.proofs.PlaceLaws.{round_at}
use Rattle.equations.proofs.way.round.Goals as goal

pub returns : goal.returns
returns c = round_at c.requires.steps_len c.enter-start.ensures c.requires.leaves c.leave-end.ensures
