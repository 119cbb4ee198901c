use Rattle.std.proofs.Common.{◌≡◌, Err, length, sym, ap, ◌∙◌, rules, arith}
use Rattle.joints.specs.Found.{among}
use Rattle.joints.proofs.StepLaws.{Coupled}
use Rattle.series.proofs.ListLaws.{all_listed, too_many_steps}
use Rattle.series.proofs.OrderLaws.{many_steps}
use Rattle.series.proofs.MakeLaws.{made_pairs, made_many, made_result, result_blank, result_pairs}
use Rattle.series.proofs.make.Goals as goal

pub returns-then-numbering : goal.returns-then-numbering
returns-then-numbering c =
    let s = c.args.series.now in made_pairs s.first.now s.second.now (among s.pairs.now) (omega (arith, c.number-numbering.ensures.count))

pub returns-in_err-steps : goal.returns-in_err-steps
returns-in_err-steps c =
    let p = c.requires in
    let s = c.args.series.now in
    let j = among s.pairs.now in
    let u : Coupled s.first.now s.second.now s.product.left.now s.product.right.now =
    record { valid = p.valid; valid' = p.valid_2; one_code = p.first_value; image = p.image_of; image' = p.image_of_2 } in
    let m = too_many_steps c.list.ensures c.in_err-steps.was in
    let same : c.from_residual.result ≡ Err c.in_err-steps.field-0.0 = search rules in
    rw (same, m.1) (made_many s.first.now s.second.now j (omega (arith, c.number-numbering.ensures.count)) (omega (arith, m.0, many_steps u j)))

pub returns-then-numbering-eq0 : goal.returns-then-numbering-eq0
returns-then-numbering-eq0 c =
    let p = c.requires in
    let s = c.args.series.now in
    let j = among s.pairs.now in
    let u : Coupled s.first.now s.second.now s.product.left.now s.product.right.now =
    record { valid = p.valid; valid' = p.valid_2; one_code = p.first_value; image = p.image_of; image' = p.image_of_2 } in
    let all = c.numbers-list.ensures.value ∙ all_listed c.list.ensures c.in_ok-steps.was in
    made_result s.first.now s.second.now j (omega (arith, c.number-numbering.ensures.count)) (omega (arith, ap length all, many_steps u j, c.numbers-list.ensures.few))
    (c.blank.ensures ∙ result_blank s.first.now s.second.now j (sym c.number-numbering.ensures.count ∙ c.if-numbering-eq0.true))

pub table-requires-clause-list_value : goal.table-requires-clause-list_value
table-requires-clause-list_value c = c.numbers-list.ensures.value ∙ all_listed c.list.ensures c.in_ok-steps.was

pub returns : goal.returns
returns c =
    let p = c.requires in
    let s = c.args.series.now in
    let j = among s.pairs.now in
    let u : Coupled s.first.now s.second.now s.product.left.now s.product.right.now =
    record { valid = p.valid; valid' = p.valid_2; one_code = p.first_value; image = p.image_of; image' = p.image_of_2 } in
    let all = c.numbers-list.ensures.value ∙ all_listed c.list.ensures c.in_ok-steps.was in
    made_result s.first.now s.second.now j (omega (arith, c.number-numbering.ensures.count)) (omega (arith, ap length all, many_steps u j, c.numbers-list.ensures.few))
    (c.table.ensures ∙ result_pairs s.first.now s.second.now j (λ z. c.if-numbering-eq0.false (c.number-numbering.ensures.count ∙ z)))
