-- Each arm knows which of the rests past the common beginning are empty.
use lib.ListN.{drop_of_length-le}
use lib.Seq.{drop-cons}
use Rattle.words.proofs.Stripped.{stripped}
use Rattle.words.proofs.difference.Goals as goal

pub returns-in-true-true : goal.returns-in-true-true
returns-in-true-true c =
    rw (
      (stripped c.args.x.now c.args.y.now c.shared-n.ensures).compares,
      drop-cons c.args.x.now _ 0 c.in-true-true.is-0,
      drop-cons c.args.y.now _ 0 c.in-true-true.is-1,
    )

pub returns-in-true-false : goal.returns-in-true-false
returns-in-true-false c =
    rw (
      (stripped c.args.x.now c.args.y.now c.shared-n.ensures).compares,
      drop-cons c.args.x.now _ 0 c.in-true-false.is-0,
      drop_of_length-le c.args.y.now c.in-true-false.is-1,
    )

pub returns-in-false-true : goal.returns-in-false-true
returns-in-false-true c =
    rw (
      (stripped c.args.x.now c.args.y.now c.shared-n.ensures).compares,
      drop_of_length-le c.args.x.now c.in-false-true.is-0,
      drop-cons c.args.y.now _ 0 c.in-false-true.is-1,
    )

pub returns-in-false-false : goal.returns-in-false-false
returns-in-false-false c =
    rw (
      (stripped c.args.x.now c.args.y.now c.shared-n.ensures).compares,
      drop_of_length-le c.args.x.now c.in-false-false.is-0,
      drop_of_length-le c.args.y.now c.in-false-false.is-1,
    )
