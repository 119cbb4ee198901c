-- `useful_pairs` meets its contract: it refuses what breaks a rule, else it answers what the searches have found. Assumes nothing.
use mathlib.Core.Path.{sym, ◌∙◌}
use Rattle.pairs.proofs.PairSetLaws.{refusal, answer}
use Rattle.pairs.proofs.useful_pairs.Goals as goal

pub returns-then-not-accepted : goal.returns-then-not-accepted
returns-then-not-accepted c = refusal (sym c.accepted.ensures.answer ∙ c.if-not-accepted.true)

pub returns : goal.returns
returns c = rw c.found_pairs.ensures (answer (sym c.accepted.ensures.answer ∙ c.if-not-accepted.false) c.search_back.ensures)
