use Rattle.std.proofs.Common.{◌≡◌, ◌+◌, ◌<◌, length}
use Rattle.std.specs.Prelude.{All}
use Rattle.wordsearch.specs.Answers.{written}
use Rattle.translator.proofs.measure.Given as goal

-- what is counted and the length of what is left are together the length of the word
abbrev pub invariant-loop-l : goal.invariant-loop-l
invariant-loop-l g l = record {
  used : All (λ k. k < l.t.count) l.l-iterator;
  size : l.total + length (written l.t l.l-iterator) ≡ length (written l.t l.fn.way);
}
