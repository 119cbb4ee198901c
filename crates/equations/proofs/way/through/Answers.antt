-- `through` meets its contract. Assumes nothing.
use Rattle.equations.proofs.PlaceLaws.{through_at}
use Rattle.equations.proofs.way.through.Goals as goal

pub returns : goal.returns
returns c = through_at c.requires.steps_len c.enter-start.ensures c.args.step.label c.args.step.to c.requires.leaves c.leave-past.ensures
