-- `step_after` meets its contract. Assumes nothing.
use Rattle.std.proofs.Common.{◌<◌, arith}
use Rattle.product.specs.Numbers.{no_transition}
use Rattle.product.proofs.IndexLaws.{next_follows, along_next, keyed_from}
use Rattle.product.proofs.StepLaws.{step_along, row_there, row_first}
use Rattle.product.proofs.steps.Product.step_after.Goals as goal

pub matching-requires : goal.matching-requires
matching-requires c =
    let r = c.requires in
    let p = c.args.self.now in
    let beside = step_along p.on_left p.on_right _ _ r.step_le_no_transition r.steps in
    along_next p.on_right beside (omega arith) c.next-next.ensures

pub returns : goal.returns
returns c =
    let r = c.requires in
    let p = c.args.self.now in
    let beside = step_along p.on_left p.on_right _ _ r.step_le_no_transition r.steps in
    let taken : c.args.step < no_transition = omega arith in
    row_first p.on_left p.on_right (row_there p.on_left p.on_right r.along taken r.steps c.row_key-key.ensures)
    (keyed_from p.on_right (next_follows p.on_right beside taken c.next-next.ensures) c.matching.ensures)
