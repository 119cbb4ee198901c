use Rattle.std.proofs.Common.{sym, ◌∙◌}
use Rattle.wordtest.proofs.RefusalLaws.{refusal_invalid, refusal_long, refusal_input, refusal_output, refusal_none, refuses}
use Rattle.wordtest.proofs.accepts.Goals as goal

pub returns-then-not-accepted : goal.returns-then-not-accepted
returns-then-not-accepted c = refuses (refusal_invalid _ _ _ (sym c.accepted.ensures.answer ∙ c.if-not-accepted.true))

pub returns-then-not-input-output : goal.returns-then-not-input-output
returns-then-not-input-output c =
    refuses (refusal_long _ _ _ (sym c.accepted.ensures.answer ∙ c.if-not-accepted.false) c.if-not-input-output.true)

pub returns-then-not-all : goal.returns-then-not-all
returns-then-not-all c =
    refuses
    (refusal_input _ _ _ (sym c.accepted.ensures.answer ∙ c.if-not-accepted.false) c.if-not-input-output.false (sym c.all.ensures ∙ c.if-not-all.true))

pub returns-then-not-all-2 : goal.returns-then-not-all-2
returns-then-not-all-2 c =
    refuses
    (refusal_output _ _ _ (sym c.accepted.ensures.answer ∙ c.if-not-accepted.false) c.if-not-input-output.false (sym c.all.ensures ∙ c.if-not-all.false)
    (sym c.all-2.ensures ∙ c.if-not-all-2.true))

pub returns : goal.returns
returns c =
    let passes =
    refusal_none _ _ _ (sym c.accepted.ensures.answer ∙ c.if-not-accepted.false) c.if-not-input-output.false (sym c.all.ensures ∙ c.if-not-all.false)
    (sym c.all-2.ensures ∙ c.if-not-all-2.false) in
    record { number = sym passes; answer = λ _. c.related.ensures }
