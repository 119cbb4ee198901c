-- `first_failing` meets its contract. Assumes nothing.
use Rattle.std.proofs.Common.{refl, ap, arith}
use Rattle.product.proofs.Promises.{steps_promised}
use Rattle.equations.specs.Loops.{TestLists}
use Rattle.equations.proofs.TriedLaws.{going_none, going_past, going_step, going_fails, going_all, needs_one}
use Rattle.equations.proofs.testing.Tests.first_failing.Goals as goal

pub loop-row-init : goal.loop-row-init
loop-row-init c =
    let e = ap (λ (x : TestLists). x.machine) c.self.view_is in
    let m = rw e at c.kept.ensures in
    let f = rw e at c.first_row-row.ensures in
    record { most = f.most; has = f.has; going = going_past (going_none c.requires.needs) (steps_promised.past_first_row m m f) }

pub loop-step-init : goal.loop-step-init
loop-step-init c =
    let e = ap (λ (x : TestLists). x.machine) c.self.view_is in
    let f = rw e at c.first_step-step.ensures in
    record { most = f.most; has = f.has; going = going_past c.loop-row.invariant.going (steps_promised.past_steps _ 0 f refl) }

pub passes-requires-clause-label : goal.passes-requires-clause-label
passes-requires-clause-label c =
    let e = ap (λ (x : TestLists). x.machine) c.self.view_is in
    let m = rw e at c.kept.ensures in
    let z = c.loop-step.invariant.has (omega (arith, c.loop-step-test.true)) in (
      rw c.label.ensures (steps_promised.step_label m m z),
      omega (arith, rw e at c.target.ensures, steps_promised.target_low m m c.requires.counts.0 z),
    )

pub passes-requires-clause-one_empty : goal.passes-requires-clause-one_empty
passes-requires-clause-one_empty c =
    needs_one c.loop-step.invariant.going.here (rw c.self.view_is at c.self.invariant) c.requires.counts

pub returns-then-not-passes : goal.returns-then-not-passes
returns-then-not-passes c =
    let e = ap (λ (x : TestLists). x.machine) c.self.view_is in
    let i = c.loop-step.invariant in
    going_fails i.going (i.has (omega (arith, c.loop-step-test.true))) c.label.ensures (rw e at c.target.ensures) c.passes.ensures.passes c.if-not-passes.true

pub step_after-step-requires-clause-steps : goal.step_after-step-requires-clause-steps
step_after-step-requires-clause-steps c =
    let e = ap (λ (x : TestLists). x.machine) c.self.view_is in
    rw e (c.loop-step.invariant.has (omega (arith, c.loop-step-test.true)))

pub loop-step-preserved : goal.loop-step-preserved
loop-step-preserved c =
    let e = ap (λ (x : TestLists). x.machine) c.self.view_is in
    let m = rw e at c.kept.ensures in
    let f = rw e at c.step_after-step.ensures in
    let i = c.loop-step.invariant in
    record {
      most = f.most;
      has = f.has;
      going =
          going_past
          (going_step i.going m (i.has (omega (arith, c.loop-step-test.true))) c.label.ensures (rw e at c.target.ensures) c.passes.ensures.passes c.if-not-passes.false c.passes.ensures.kept)
          (steps_promised.past_steps _ _ f (omega arith));
    }

pub loop-row-preserved : goal.loop-row-preserved
loop-row-preserved c =
    let e = ap (λ (x : TestLists). x.machine) c.self.view_is in
    let m = rw e at c.kept.ensures in
    let f = rw e at c.row_after-row.ensures in
    let i = c.loop-step.invariant in
    record { most = f.most; has = f.has; going = going_past i.going (steps_promised.past_row_after m m _ _ (omega arith) i.most f) }

pub returns : goal.returns
returns c =
    let e = ap (λ (x : TestLists). x.machine) c.self.view_is in
    let m = rw e at c.kept.ensures in
    going_all c.loop-row.invariant.going m (omega arith)
