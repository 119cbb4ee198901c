-- `close` meets its contract. Assumes nothing.
use Rattle.std.proofs.Common.{◌<◌, ltb, sym, ◌∙◌, arith}
use borrow.Author.Tests.{ltb-true}
use Rattle.worklist.proofs.AllFound.{counted}
use Rattle.transducer.proofs.Bools.{and_left}
use Rattle.product.proofs.ConfinedLaws.{search_ends}
use Rattle.product.proofs.search.Confined.close.Goals as goal

pub loop-head-init : goal.loop-head-init
loop-head-init c =
    record { most = c.allowed_pairs-most.ensures.counted ∙ sym (counted c.args.self.now.allowed.now); working = c.requires }

pub expand-requires : goal.expand-requires
expand-requires c =
    let w = c.loop-head.invariant.working in
    let p = c.args.self.now.product in
    let more = and_left (ltb c.loop-head.head c.count.result) _ c.loop-head-test.true in
    let place : c.loop-head.head < c.loop-head.found.count = omega (arith, ltb-true _ _ more, c.count.ensures) in
    record {
      lent = record { left_machine = p.on_left; right_machine = p.on_right; long = c.allowed_pairs-most.ensures.long };
      grown = w.grown;
      roots = w.roots;
      place = place;
    }

pub returns : goal.returns
returns c = search_ends c.loop-head.invariant.working c.loop-head.invariant.most (rw (c.count.ensures, c.count-in-loop-head.ensures) at c.loop-head-test.false)
