-- `states_in` meets its contract: the flags decide. Assumes nothing.
use Rattle.held.proofs.FillLaws.{states_right, states_wrong}
use Rattle.held.proofs.states_in.Goals as goal

pub returns-then-flags_right : goal.returns-then-flags_right
returns-then-flags_right c = states_right _ c.flags_right.ensures c.if-flags_right.true

pub returns-else-flags_right : goal.returns-else-flags_right
returns-else-flags_right c = states_wrong _ c.flags_right.ensures c.if-flags_right.false
