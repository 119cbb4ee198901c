-- The flags are those of the set, and where they are shown their count is given.
use Rattle.std.proofs.Common.{refl, sym, ◌∙◌, ◌≡◌}
use Rattle.transducer.proofs.RefusalLaws.{refusal_number_some}
use Rattle.unit.proofs.Returns.{begun, flagged_refused}
use Rattle.unit.proofs.yotselina_useful_pairs.Goals as goal

pub returns-in-Err : goal.returns-in-Err
returns-in-Err c =
    record {
      call =
          begun (c.if-answer-lt-PAIRS.false, c.if-table-lt-SIZE.false)
          (record {
            found = _;
            useful = rw (c.table_in-t.ensures, c.in-Err.is) at c.useful_pairs.ensures;
            flagged = flagged_refused c.in-Err.refusal c.number.ensures;
            given =
                record {
                  code = refl;
                  refused = λ _. refl;
                  answered = λ z. absurd (refusal_number_some c.in-Err.refusal (sym c.number.ensures ∙ z));
                };
          });
    }

pub returns-then-refusal-ne0 : goal.returns-then-refusal-ne0
returns-then-refusal-ne0 c =
    record {
      call =
          begun (c.if-answer-lt-PAIRS.false, c.if-table-lt-SIZE.false)
          (record {
            found = _;
            useful = rw (c.table_in-t.ensures, c.in-Ok.is) at c.useful_pairs.ensures;
            flagged = c.give_flags-refusal.ensures;
            given = record { code = refl; refused = λ _. refl; answered = λ z. absurd (c.if-refusal-ne0.true z) };
          });
    }

pub returns : goal.returns
returns c =
    let done : c.give.result ≡ 0 = c.give.ensures.code in
    record {
      call =
          begun (c.if-answer-lt-PAIRS.false, c.if-table-lt-SIZE.false)
          (record {
            found = _;
            useful = rw (c.table_in-t.ensures, c.in-Ok.is) at c.useful_pairs.ensures;
            flagged = rw (c.if-refusal-ne0.false ∙ sym done) at c.give_flags-refusal.ensures;
            given = record { code = refl; refused = λ n. absurd (n done); answered = λ _. c.give.ensures.answered done };
          });
    }
