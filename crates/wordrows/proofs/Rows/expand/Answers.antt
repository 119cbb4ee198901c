-- `expand` meets its contract. Assumes nothing.
use Rattle.std.proofs.Common.{ap, ◌∙◌}
use Rattle.product.specs.Machine.{head_of, next_of}
use Rattle.product.proofs.IndexLaws.{head_follows, next_follows}
use Rattle.wordrows.specs.Leads.{Ground}
use Rattle.wordrows.proofs.SweepLaws.{expanding_none, expanding_more}
use Rattle.wordrows.proofs.Rows.expand.Goals as goal

pub loop-l-init : goal.loop-l-init
loop-l-init c =
    let f = head_follows c.requires.ready.lent.machine c.requires.marked.state ((rw c.from.ensures at c.head-l.ensures) ∙ ap (λ (g : Ground). head_of g.m c.args.q) c.self.view_is) in
    (record { most = f.most; leaves = f.leaves }, expanding_none c.requires.ready f)

pub loop-l-preserved : goal.loop-l-preserved
loop-l-preserved c =
    let f = next_follows c.requires.ready.lent.machine c.loop-l.invariant.0 c.loop-l-test.true (c.next-l.ensures ∙ ap (λ (g : Ground). next_of g.m c.loop-l.l) c.self.view_is) in
    (record { most = f.most; leaves = f.leaves }, expanding_more c.loop-l.invariant.1 c.follow.ensures f)
