-- The table is held, or the refusal is returned.
use Rattle.answers.proofs.Ends.{held_done, held_refused}
use Rattle.answers.proofs.give_table.Goals as goal

pub returns-in-Ok : goal.returns-in-Ok
returns-in-Ok c = rw (c.in-Ok.is, c.hold.ensures) held_done

pub returns-in-Err : goal.returns-in-Err
returns-in-Err c = rw c.in-Err.is (held_refused c.in-Err.refusal c.code.ensures)
