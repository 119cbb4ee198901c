use Rattle.pathwords.proofs.WritingLaws.{bytes_at}
use Rattle.pathwords.proofs.ComparingLaws.{Comparing}
use Rattle.pathwords.proofs.output_is.Given as goal

-- what is left of the path writes what is left of the word exactly when the path writes the word
abbrev pub invariant-loop-l : goal.invariant-loop-l
invariant-loop-l l = Comparing (bytes_at l.t) l.path l.word l.rest l.l-index
