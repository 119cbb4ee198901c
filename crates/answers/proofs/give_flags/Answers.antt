-- `give_flags` meets its contract: the refusal decides, then the places. Assumes nothing.
use Rattle.std.proofs.Common.{arith, refl, sym, ◌∙◌, ◌≢◌, length}
use Rattle.transducer.proofs.RefusalLaws.{this_one, none_then, only_one, refusal_number_some}
use Rattle.answers.proofs.Rooms.{room, no_room}
use Rattle.answers.proofs.give_flags.Goals as goal

pub returns-in-Err : goal.returns-in-Err
returns-in-Err g c =
    let some : c.number.result ≢ 0 = λ z. refusal_number_some c.in-Err.refusal (sym c.number.ensures ∙ z) in
    rw c.in-Err.is (record { code = this_one _ c.number.ensures some; refused = λ _. refl; shown = λ z. absurd (some z) })

pub returns-then-flags : goal.returns-then-flags
returns-then-flags g c =
    rw c.in-Ok.is
    (record {
      code = none_then _ refl (only_one (c.number-then-flags.ensures ∙ no_room (length c.in-Ok.members) _ (omega arith)));
      refused = λ _. refl;
      shown = λ z. absurd (omega (arith, c.number-then-flags.ensures, z));
    })

pub returns : goal.returns
returns g c =
    rw c.in-Ok.is
    (record {
      code = none_then _ refl (only_one (sym (room (length c.in-Ok.members) _ (omega arith))));
      refused = λ n. absurd (n refl);
      shown = λ _. c.put_flags.ensures;
    })
