-- `table_in` meets its contract: each field is read by a function of its own. Assumes nothing.
use Rattle.held.specs.Held.{table_in_of}
use Rattle.held.proofs.table_in.Goals as goal

pub returns : goal.returns
unfolding table_in_of
returns c = λ i. record {
  states = c.states_in.ensures i;
  starts = c.set_at.ensures i;
  finals = c.set_at-2.ensures i;
  count = c.count_in.ensures i;
  transitions = c.lines_in.ensures i;
  useful = c.set_at-3.ensures i;
}
