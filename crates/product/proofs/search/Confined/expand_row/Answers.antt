-- `expand_row` meets its contract. Assumes nothing.
use Rattle.std.proofs.Common.{refl, sym, arith}
use Rattle.worklist.proofs.Stages.{scanned_none}
use Rattle.product.proofs.TargetLaws.{target_low}
use Rattle.product.proofs.StepLaws.{past_steps}
use Rattle.product.proofs.ConfinedLaws.{scanned_past, scanned_offer}
use Rattle.product.proofs.search.Confined.expand_row.Goals as goal

pub loop-step-init : goal.loop-step-init
loop-step-init c =
    let f = rw c.node-pair.ensures at c.first_step-step.ensures in
    record {
      most = f.most;
      steps = f.has;
      scan = scanned_past (scanned_none (omega arith) c.requires.ready.grown) (past_steps _ 0 f refl);
    }

pub offer-requires : goal.offer-requires
offer-requires c =
    let r = c.requires.ready in
    let i = c.loop-step.invariant in
    let step = i.steps c.loop-step-test.true in
    omega (
      arith,
      target_low r.lent.left_machine r.lent.right_machine (r.grown.below _ r.place) step,
      rw c.node-pair.ensures at c.target-v.ensures,
    )

pub step_after-step-requires-clause-steps : goal.step_after-step-requires-clause-steps
step_after-step-requires-clause-steps c = rw c.node-pair.ensures (c.loop-step.invariant.steps c.loop-step-test.true)

pub loop-step-preserved : goal.loop-step-preserved
loop-step-preserved c =
    let f = rw c.node-pair.ensures at c.step_after-step.ensures in
    let i = c.loop-step.invariant in
    record {
      most = f.most;
      steps = f.has;
      scan =
          scanned_past
          (scanned_offer c.requires.ready i.scan (i.steps c.loop-step-test.true) (sym (rw c.node-pair.ensures at c.target-v.ensures))
          c.label.ensures c.offer.ensures)
          (past_steps _ _ f (omega arith));
    }
