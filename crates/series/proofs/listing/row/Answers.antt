use Rattle.std.proofs.Common.{◌≡◌, Err, rules, arith}
use Rattle.product.specs.Steps.{past_last}
use Rattle.product.proofs.TargetLaws.{target_low}
use Rattle.joints.specs.Found.{among}
use Rattle.series.specs.Parts.{step_at, row_of}
use Rattle.series.proofs.ListLaws.{added_none, gather_add, gather_skip, gather_over}
use Rattle.series.proofs.TestLaws.{no_step, a_step}
use Rattle.series.proofs.listing.row.Goals as goal

pub loop-m-init : goal.loop-m-init
loop-m-init c =
    let f = c.first_step-m.ensures in
    let p = c.requires in
    let a = c.args in
    let steps = step_at a.series.now.product.left.now a.series.now.product.right.now (among a.series.now.pairs.now) a.v a.l in
    record {
      in_range = f.most;
      step = f.has;
      added = gather_skip steps 0 _ (added_none steps) _ f.above
          (λ k low high. no_step a.series.now.product.on_left a.series.now.product.on_right (among a.series.now.pairs.now) a.v a.l p.along.most k (omega (arith, f.most))
          (f.none k low high));
    }

pub offer-requires : goal.offer-requires
offer-requires c =
    let p = c.requires in
    let a = c.args in
    omega (arith, target_low a.series.now.product.on_left a.series.now.product.on_right p.v_lt_most_pairs (c.loop-m.invariant.step c.loop-m-test.true), c.target-to.ensures)

pub returns-in_err-offer : goal.returns-in_err-offer
unfolding row_of
returns-in_err-offer c =
    let p = c.requires in
    let a = c.args in
    let j = among a.series.now.pairs.now in
    let one =
    a_step a.series.now.product.on_left a.series.now.product.on_right j a.v a.l p.along.most c.offer.ensures (omega (arith, c.loop-m.invariant.in_range)) (c.loop-m.invariant.step c.loop-m-test.true)
    c.target-to.ensures (omega (arith, c.label-label.ensures)) in
    let same : c.from_residual.result ≡ Err c.in_err-offer.field-0.0 = search rules in
    gather_over (step_at a.series.now.product.left.now a.series.now.product.right.now j a.v a.l) c.loop-m.m _ c.loop-m.invariant.added one c.in_err-offer.was same past_last
    c.loop-m-test.true

pub step_after-m-requires-clause-steps : goal.step_after-m-requires-clause-steps
step_after-m-requires-clause-steps c = c.loop-m.invariant.step c.loop-m-test.true

pub loop-m-preserved : goal.loop-m-preserved
loop-m-preserved c =
    let f = c.step_after-m.ensures in
    let p = c.requires in
    let a = c.args in
    let j = among a.series.now.pairs.now in
    let m = c.loop-m.m in
    let steps = step_at a.series.now.product.left.now a.series.now.product.right.now j a.v a.l in
    let one =
    a_step a.series.now.product.on_left a.series.now.product.on_right j a.v a.l p.along.most c.offer.ensures (omega (arith, c.loop-m.invariant.in_range)) (c.loop-m.invariant.step c.loop-m-test.true)
    c.target-to.ensures (omega (arith, c.label-label.ensures)) in
    record {
      in_range = f.most;
      step = f.has;
      added = gather_skip steps _ _ (gather_add steps m _ c.loop-m.invariant.added one c.in_ok-offer.was) _ f.above
          (λ k low high. no_step a.series.now.product.on_left a.series.now.product.on_right j a.v a.l p.along.most k (omega (arith, f.most)) (f.none k low high));
    }

pub returns : goal.returns
unfolding row_of
returns c =
    let i = c.loop-m.invariant in
    let e : c.loop-m.m ≡ past_last = omega (arith, i.in_range) in
    record { added = rw e at i.added; many = tt; refusal = tt }
