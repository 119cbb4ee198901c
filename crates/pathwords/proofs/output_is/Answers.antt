-- `output_is` meets its contract. Assumes nothing.
use Rattle.std.proofs.Common.{sym, ◌∙◌}
use mathlib.Core.Bool.{false≢true}
use Rattle.pathwords.proofs.WritingLaws.{bytes_path}
use Rattle.pathwords.proofs.ComparingLaws.{comparing_turns, comparing_differs, comparing_ends}
use Rattle.pathwords.proofs.output_is.Goals as goal

pub returns-in-None : goal.returns-in-None
returns-in-None c =
    let unlike = comparing_differs c.loop-l.invariant c.loop-l-test.true c.in-None.ensures in
    (λ e. absurd (false≢true e), λ e. absurd (unlike (sym (bytes_path c.args.t c.args.path.now) ∙ e)))

pub loop-l-preserved : goal.loop-l-preserved
loop-l-preserved c = comparing_turns c.loop-l.invariant c.loop-l-test.true c.in-Some.ensures

pub returns : goal.returns
returns c = rw (bytes_path c.args.t c.args.path.now, c.is_empty.ensures) (comparing_ends c.loop-l.invariant c.loop-l-test.false)
