-- `follow` meets its contract. Assumes nothing.
use Rattle.std.proofs.Common.{sym, ap, ◌∙◌}
use Rattle.product.specs.Machine.{key_of}
use Rattle.outputs.specs.Outputs.{count_at}
use Rattle.wordrows.specs.Leads.{Ground}
use Rattle.wordrows.proofs.GrowLaws.{followed_next, followed_here, followed_empty, followed_none}
use Rattle.wordrows.proofs.Rows.follow.Goals as goal

pub returns-then-read-code : goal.returns-then-read-code
returns-then-read-code c =
    let key = c.key-read.ensures ∙ ap (λ (g : Ground). key_of g.m c.args.l) c.self.view_is in
    followed_next c.requires.ready c.requires.l_bound c.requires.marked (sym key ∙ c.if-read-code.true) c.put.ensures

pub returns-then-read-ne0 : goal.returns-then-read-ne0
returns-then-read-ne0 c =
    let key = c.key-read.ensures ∙ ap (λ (g : Ground). key_of g.m c.args.l) c.self.view_is in
    followed_none
    c.requires.ready
    c.requires.l_bound
    c.requires.marked
    (λ z. c.if-read-ne0.true (key ∙ z))
    (λ z. c.if-read-code.false (key ∙ z))

pub returns-then-count-ne0 : goal.returns-then-count-ne0
returns-then-count-ne0 c =
    let key = c.key-read.ensures ∙ ap (λ (g : Ground). key_of g.m c.args.l) c.self.view_is in
    let count = (rw c.from.ensures at c.count.ensures) ∙ ap (λ (g : Ground). count_at g.written c.args.l) c.self.view_is in
    followed_here
    c.requires.ready
    c.requires.l_bound
    c.requires.marked
    (sym key ∙ c.if-read-ne0.false)
    (λ z. c.if-count-ne0.true (count ∙ z))
    c.put-then-count-ne0.ensures

pub returns-else-count-ne0 : goal.returns-else-count-ne0
returns-else-count-ne0 c =
    let key = c.key-read.ensures ∙ ap (λ (g : Ground). key_of g.m c.args.l) c.self.view_is in
    let count = (rw c.from.ensures at c.count.ensures) ∙ ap (λ (g : Ground). count_at g.written c.args.l) c.self.view_is in
    followed_empty
    c.requires.ready
    c.requires.l_bound
    c.requires.marked
    (sym key ∙ c.if-read-ne0.false)
    (sym count ∙ c.if-count-ne0.false)
