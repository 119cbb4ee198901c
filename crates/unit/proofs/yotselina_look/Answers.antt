-- The set that is kept is the table's.
use Rattle.unit.proofs.Returns.{look_given}
use Rattle.unit.proofs.yotselina_look.Goals as goal

pub returns : goal.returns
returns c = look_given c.if-table-lt-SIZE.false c.set_at-states.ensures c.give_flags.ensures
