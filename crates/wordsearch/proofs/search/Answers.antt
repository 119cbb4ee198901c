-- `search` meets its contract. Assumes nothing.
use Rattle.std.proofs.Common.{arith, below_more}
use Rattle.transducer.proofs.Facts.{in_below}
use Rattle.worklist.proofs.Findings.{exact}
use Rattle.worklist.proofs.Stages.{working_none, working_more}
use Rattle.wordsearch.proofs.MoveLaws.{ends_true, ends_false}
use Rattle.wordsearch.proofs.search.Goals as goal

pub loop-head-init : goal.loop-head-init
loop-head-init g c = record {
  working =
      working_none c.roots.ensures (λ v z. omega (arith, in_below c.args.starts v z, c.requires.lent.nodes.room));
  none = λ i h. absurd (omega arith);
}

pub returns-then-ends : goal.returns-then-ends
returns-then-ends g c =
    record {
      search = c.loop-head.invariant.working.grown;
      taken = rw c.count.ensures at c.loop-head-test.true;
      ends = rw c.node.ensures at (ends_true c.args.finals c.args.input.now _ c.ends.ensures c.if-ends.true);
    }

pub loop-head-preserved : goal.loop-head-preserved
loop-head-preserved g c =
    let i = c.loop-head.invariant in
    let done = c.expand.ensures c.args.starts i.working.grown in
    let taken = rw c.count.ensures at c.loop-head-test.true in
    let kept = done.extends.order in
    record {
      working = working_more i.working taken done;
      none =
          below_more _ _ (λ k h. rw (kept k (omega arith)) (i.none k h))
          (rw (kept _ taken, ← c.node.ensures) (ends_false c.args.finals c.args.input.now _ c.ends.ensures c.if-ends.false));
    }

pub returns : goal.returns
returns g c =
    let i = c.loop-head.invariant in
    record { exact = exact i.working (rw c.count.ensures at c.loop-head-test.false); none = λ k h. i.none k (omega arith) }
