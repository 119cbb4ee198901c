use Rattle.std.proofs.Common.{length, sym, subst, ◌∙◌, arith}
use Rattle.transducer.specs.Valid.{Valid}
use Rattle.transducer.proofs.LineLaws.{keeping_valid}
use Rattle.joints.specs.Found.{among}
use Rattle.joints.proofs.StepLaws.{Coupled}
use Rattle.series.proofs.RuleLaws.{pairs_valid}
use Rattle.series.proofs.TableLaws.{numbered_small, count_is, placed_at, array_is, table_is}
use Rattle.series.proofs.table.table.Goals as goal

pub transitions-transitions-requires-clause-small : goal.transitions-transitions-requires-clause-small
transitions-transitions-requires-clause-small c = numbered_small c.requires.numbered c.requires.n_le_most_states

pub transitions-transitions-requires-clause-by_index : goal.transitions-transitions-requires-clause-by_index
transitions-transitions-requires-clause-by_index c =
    let p = c.requires in
    let u : Coupled c.args.series.now.first.now c.args.series.now.second.now c.args.series.now.product.left.now c.args.series.now.product.right.now =
    record { valid = p.valid; valid' = p.valid_2; one_code = p.first_value; image = p.image_of; image' = p.image_of_2 } in
    placed_at u (among c.args.series.now.pairs.now) p.list_value p.k_le_most_transitions

pub keep-requires : goal.keep-requires
keep-requires c =
    let p = c.requires in
    let s = c.args.series.now in
    let j = among s.pairs.now in
    let u : Coupled s.first.now s.second.now s.product.left.now s.product.right.now =
    record { valid = p.valid; valid' = p.valid_2; one_code = p.first_value; image = p.image_of; image' = p.image_of_2 } in
    let count = count_is u j p.list_value p.k_le_most_transitions in
    let kept =
    table_is s.first.now s.second.now j c.args.numbering.now.count (length c.args.list.now) c.both_in-starts.result c.both_in-finals.result c.empty.result c.transitions-transitions.result p.numbered.count
    c.both_in-starts.ensures c.both_in-finals.ensures count
    (array_is u j p.list_value p.k_le_most_transitions p.numbered c.transitions-transitions.ensures) in
    (keeping_valid _).0
    (subst Valid (sym kept)
    (pairs_valid s.first.now s.second.now j (omega (arith, p.numbered.count, p.n_le_most_states)) (omega (arith, count, p.k_le_most_transitions)) u.valid' u.valid
    (omega (arith, p.numbered.count, p.le_n))))

pub returns : goal.returns
returns c =
    let p = c.requires in
    let s = c.args.series.now in
    let j = among s.pairs.now in
    let u : Coupled s.first.now s.second.now s.product.left.now s.product.right.now =
    record { valid = p.valid; valid' = p.valid_2; one_code = p.first_value; image = p.image_of; image' = p.image_of_2 } in
    c.keep.ensures
    ∙ table_is s.first.now s.second.now j c.args.numbering.now.count (length c.args.list.now) c.both_in-starts.result c.both_in-finals.result c.empty.result c.transitions-transitions.result p.numbered.count
    c.both_in-starts.ensures c.both_in-finals.ensures (count_is u j p.list_value p.k_le_most_transitions)
    (array_is u j p.list_value p.k_le_most_transitions p.numbered c.transitions-transitions.ensures)
