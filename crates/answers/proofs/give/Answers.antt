-- The numbers stand at the front of the list. Assumes nothing.
use Rattle.std.proofs.Common.{refl}
use Rattle.answers.proofs.give.Goals as goal

pub returns-in-Ok : goal.returns-in-Ok
returns-in-Ok g c = rw c.in-Ok.is (record { code = refl; refused = λ n. absurd (n refl); answered = λ _. c.put_numbers.ensures })
