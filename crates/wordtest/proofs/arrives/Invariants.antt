-- The loop's invariant: `here` is the row for the position of the code, before it is closed.
use Rattle.wordtest.proofs.RowLaws.{Begun}
use Rattle.wordtest.proofs.arrives.Given as goal

abbrev pub invariant-loop-code : goal.invariant-loop-code
invariant-loop-code l = Begun l.rows.m l.rows.written l.fn.starts l.input l.rows.output l.code-index l.here
