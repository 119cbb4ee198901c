-- `first_side` meets its contract: the parts that `before` compares are the two sides. Assumes nothing.
use mathlib.Core.Bool.{true, false}
use Rattle.witness.specs.Walk.{walk_of}
use Rattle.witness.proofs.WholeLaws.{first_side}
use Rattle.witness.proofs.Fronts.{front_is}
use Rattle.witness.proofs.first_side.Goals as goal

pub returns-then-before : goal.returns-then-before
returns-then-before c =
    first_side (walk_of c.args.steps.now) c.requires.steps_nonzero true
    (rw (front_is c.write_side-r.ensures, front_is c.write_side-l.ensures, c.if-before.true) at c.before-2.ensures)

pub returns-else-before : goal.returns-else-before
returns-else-before c =
    first_side (walk_of c.args.steps.now) c.requires.steps_nonzero false
    (rw (front_is c.write_side-r.ensures, front_is c.write_side-l.ensures, c.if-before.false) at c.before-2.ensures)
