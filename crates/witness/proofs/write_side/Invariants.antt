use Rattle.witness.specs.Sides.{is_right}
use Rattle.witness.proofs.SideLaws.{Writing}
use Rattle.witness.proofs.write_side.Given as goal

-- with the rest of the side stored at `at`, the whole side stands at the front of the buffer
abbrev pub invariant-loop-label : goal.invariant-loop-label
invariant-loop-label l = Writing (is_right l.side) l.steps l.fn.path l.path l.at l.label-index
