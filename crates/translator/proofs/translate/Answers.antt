-- `translate` meets its contract: each test decides one refusal, in document 01's order, and what is left is answered. Assumes nothing.
use Rattle.std.proofs.Common.{arith, sym, ◌∙◌}
use Rattle.translator.proofs.RefusalLaws.{refusal_invalid, refusal_long, refusal_code_lem, refusal_none, refuses, answers}
use Rattle.translator.proofs.translate.Goals as goal

pub returns-then-not-accepted : goal.returns-then-not-accepted
returns-then-not-accepted c = refuses (refusal_invalid _ _ (sym c.accepted.ensures.answer ∙ c.if-not-accepted.true)) (λ z. omega arith)

pub returns-then-input-gt-WORD : goal.returns-then-input-gt-WORD
returns-then-input-gt-WORD c =
    refuses (refusal_long _ _ (sym c.accepted.ensures.answer ∙ c.if-not-accepted.false) c.if-input-gt-WORD.true) (λ z. omega arith)

pub returns-then-not-all : goal.returns-then-not-all
returns-then-not-all c =
    refuses
    (refusal_code_lem _ _ (sym c.accepted.ensures.answer ∙ c.if-not-accepted.false) c.if-input-gt-WORD.false (sym c.all.ensures ∙ c.if-not-all.true))
    (λ z. omega arith)

pub returns-then-input-lt-SHORT : goal.returns-then-input-lt-SHORT
returns-then-input-lt-SHORT c =
    answers
    (refusal_none _ _ (sym c.accepted.ensures.answer ∙ c.if-not-accepted.false) c.if-input-gt-WORD.false (sym c.all.ensures ∙ c.if-not-all.false))
    c.answer.ensures.outcome c.answer.ensures.unchanged

pub returns : goal.returns
returns c =
    answers
    (refusal_none _ _ (sym c.accepted.ensures.answer ∙ c.if-not-accepted.false) c.if-input-gt-WORD.false (sym c.all.ensures ∙ c.if-not-all.false))
    c.answer-2.ensures.outcome c.answer-2.ensures.unchanged
