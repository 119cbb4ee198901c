use Rattle.std.proofs.Common.{get_or, ◌∙◌, arith}
use borrow.Author.Count.{below_none, below_more}
use Rattle.std.proofs.Math.ListN.{length-set}
use Rattle.std.proofs.Math.Seq.{get_or-set_same, get_or-set_other}
use Rattle.transducer.specs.Limits.{most_transitions}
use Rattle.transducer.specs.Transition.{outside}
use Rattle.product.proofs.TargetLaws.{target_low}
use Rattle.series.specs.Parts.{pair_in, label_in}
use Rattle.series.proofs.TableLaws.{all_clear, step_target, line_made}
use Rattle.series.proofs.table.transitions.Goals as goal

pub loop-i-init : goal.loop-i-init
loop-i-init c =
    let f = all_clear most_transitions c.clear-clear.ensures in
    record { long = f.0; line = below_none _; clear = λ j h k. f.1 j k }

pub line-requires-clause-to_lt_most_pairs : goal.line-requires-clause-to_lt_most_pairs
line-requires-clause-to_lt_most_pairs c =
    let p = c.requires in
    let step = get_or c.args.list.now c.loop-i.i 0 in
    let s = p.by_index c.loop-i.i c.loop-i-test.true in
    let is = step_target c.args.series.now.product.left.now c.args.series.now.product.right.now (pair_in step) (label_in step) c.target-to.ensures c.left_of-l.ensures c.right_of-m.ensures in
    omega (arith, is, target_low c.args.series.now.product.on_left c.args.series.now.product.on_right s.pair s.step)

pub loop-i-preserved : goal.loop-i-preserved
loop-i-preserved c =
    let a = c.args in
    let i = c.loop-i.i in
    let lines = c.loop-i.lines in
    let v = c.loop-i.invariant in
    let step = get_or a.list.now i 0 in
    let is = step_target a.series.now.product.left.now a.series.now.product.right.now (pair_in step) (label_in step) c.target-to.ensures c.left_of-l.ensures c.right_of-m.ensures in
    record {
      long = length-set lines i _ ∙ v.long;
      line = below_more _ i (λ j h. get_or-set_other lines i j _ outside (λ e. omega arith) ∙ v.line j h)
          (get_or-set_same lines i _ outside (omega arith)
          ∙ line_made a.series.now.first.now a.series.now.second.now a.series.now.product.left.now a.series.now.product.right.now a.states.now step c.line.ensures is c.taken-x.ensures c.taken-y.ensures
          c.left_of-l.ensures c.right_of-m.ensures);
      clear = λ j h k. get_or-set_other lines i j _ outside (λ e. omega arith) ∙ v.clear j (omega arith) k;
    }
