-- `first_step` meets its contract. Assumes nothing.
use Rattle.std.proofs.Common.{sym, ◌∙◌, arith}
use lib.Dec.{eqb, ltb}
use borrow.Author.Tests.{eqb-true, ltb-true, eq-eqb, lt-ltb}
use Rattle.transducer.proofs.Bools.{and_left, and_right}
use Rattle.product.specs.Numbers.{no_transition}
use Rattle.product.proofs.IndexLaws.{head_follows, keyed_from}
use Rattle.product.proofs.StepLaws.{key_taken, row_beside, row_first, row_alone}
use Rattle.product.proofs.ConfinedLaws.{not_both}
use Rattle.product.proofs.steps.Product.first_step.Goals as goal

pub returns-then-key-row : goal.returns-then-key-row
returns-then-key-row c =
    let k = c.row_key-key in
    let alone = eqb-true k.result 0 (and_left (eqb k.result 0) (ltb c.args.row no_transition) c.if-key-row.true) in
    let taken = ltb-true c.args.row no_transition (and_right (eqb k.result 0) (ltb c.args.row no_transition) c.if-key-row.true) in
    row_alone c.args.self.now.on_left c.args.self.now.on_right (c.requires.along.leaves taken) (sym (key_taken _ _ taken) ∙ sym k.ensures ∙ alone)

pub returns : goal.returns
returns c =
    let on_left = c.args.self.now.on_left in
    let on_right = c.args.self.now.on_right in
    row_first on_left on_right
    (row_beside on_left on_right c.requires.along c.row_key-key.ensures
    (λ z h. not_both (eq-eqb _ _ z) (lt-ltb _ _ h) c.if-key-row.false))
    (keyed_from on_right (head_follows on_right (omega arith) c.head-m.ensures) c.matching.ensures)
