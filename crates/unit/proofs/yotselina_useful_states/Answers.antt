-- The flags are those of the set.
use Rattle.std.proofs.Common.{rules}
use Rattle.useful.specs.UsefulStates.{states_of}
use Rattle.unit.proofs.Returns.{begun, flagged_as}
use Rattle.unit.proofs.yotselina_useful_states.Goals as goal

pub returns : goal.returns
returns c =
    let found = c.useful_states-found.result in
    let flagged = flagged_as found (λ r. (states_of r).member) c.map.result (λ x y k. search rules) c.map.ensures.cases c.give_flags.ensures in
    record {
      call = begun c.if-table-lt-SIZE.false (record { found = found; useful = rw c.table_in-t.ensures at c.useful_states-found.ensures; flagged = flagged });
    }
