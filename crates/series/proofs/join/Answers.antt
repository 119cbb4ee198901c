use Rattle.std.proofs.Common.{sym, ◌∙◌}
use Rattle.series.proofs.MakeLaws.{join_invalid, join_long, join_made}
use Rattle.series.proofs.join.Goals as goal

pub returns-then-not-accepted : goal.returns-then-not-accepted
returns-then-not-accepted c = join_invalid (rw (sym c.accepted.ensures.answer ∙ c.if-not-accepted.true))

pub returns-then-not-accepted-2 : goal.returns-then-not-accepted-2
returns-then-not-accepted-2 c =
    join_invalid (rw (sym c.accepted.ensures.answer ∙ c.if-not-accepted.false, sym c.accepted-2.ensures.answer ∙ c.if-not-accepted-2.true))

pub returns-then-not-one_code : goal.returns-then-not-one_code
returns-then-not-one_code c =
    join_long (sym c.accepted.ensures.answer ∙ c.if-not-accepted.false) (sym c.accepted-2.ensures.answer ∙ c.if-not-accepted-2.false)
    (sym c.one_code.ensures ∙ c.if-not-one_code.true)

pub returns : goal.returns
returns c =
    join_made (sym c.accepted.ensures.answer ∙ c.if-not-accepted.false) (sym c.accepted-2.ensures.answer ∙ c.if-not-accepted-2.false)
    (sym c.one_code.ensures ∙ c.if-not-one_code.false) c.joined_pairs.ensures c.make.ensures
