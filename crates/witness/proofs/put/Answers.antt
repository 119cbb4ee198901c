-- `put` meets its contract: path A is the side that comes first, path B the other one. Assumes nothing.
use Rattle.std.proofs.Common.{List, ℕ, ◌≤◌, sym, length, take, arith}
use mathlib.Core.Bool.{not}
use lib.Seq.{length-take-le}
use Rattle.words.specs.Difference.{shared_of}
use Rattle.words.proofs.HowFar.{parting}
use Rattle.witness.specs.Walk.{accepting}
use Rattle.witness.specs.Sides.{is_right}
use Rattle.witness.proofs.WholeLaws.{candidate_labels, sides_differ}
use Rattle.witness.proofs.OutputLaws.{path_numbers, few_written, few_read, output_front, word_front}
use Rattle.witness.proofs.ShowingLaws.{whole_showing}
use Rattle.witness.proofs.put.Goals as goal

-- the first m codes have at most m in common with any
few : (x y : List ℕ) (m : ℕ) → m ≤ length x → shared_of (take m x) y ≤ m
few x y m l = omega (arith, (parting (take m x) y).agreeing.in_x, length-take-le m x l)

pub first_side-first-requires-clause-labels : goal.first_side-first-requires-clause-labels
first_side-first-requires-clause-labels c = candidate_labels c.requires.split.candidate

pub first_side-first-requires-clause-steps_nonzero : goal.first_side-first-requires-clause-steps_nonzero
first_side-first-requires-clause-steps_nonzero c = sides_differ c.requires.split.candidate.whole c.requires.split.differ

pub write_side-a-requires-clause-labels : goal.write_side-a-requires-clause-labels
write_side-a-requires-clause-labels c = candidate_labels c.requires.split.candidate

pub write_side-b-requires-clause-labels : goal.write_side-b-requires-clause-labels
write_side-b-requires-clause-labels c = candidate_labels c.requires.split.candidate

pub output-x-requires-clause-numbers : goal.output-x-requires-clause-numbers
output-x-requires-clause-numbers c = path_numbers c.requires.split.candidate (is_right c.first_side-first.result) c.write_side-a.ensures

pub output-x-requires-clause-path_in_bounds : goal.output-x-requires-clause-path_in_bounds
output-x-requires-clause-path_in_bounds c = omega (arith, few_written c.requires.split.candidate (is_right c.first_side-first.result) c.write_side-a.ensures, c.requires.full.output_x)

pub output-y-requires-clause-numbers : goal.output-y-requires-clause-numbers
output-y-requires-clause-numbers c = path_numbers c.requires.split.candidate (is_right c.other.result) c.write_side-b.ensures

pub output-y-requires-clause-path_in_bounds : goal.output-y-requires-clause-path_in_bounds
output-y-requires-clause-path_in_bounds c = omega (arith, few_written c.requires.split.candidate (is_right c.other.result) c.write_side-b.ensures, c.requires.full.output_y)

pub input-read-requires-clause-numbers : goal.input-read-requires-clause-numbers
input-read-requires-clause-numbers c = path_numbers c.requires.split.candidate (is_right c.first_side-first.result) c.write_side-a.ensures

pub input-read-requires-clause-path_in_bounds : goal.input-read-requires-clause-path_in_bounds
input-read-requires-clause-path_in_bounds c = omega (arith, few_read c.requires.split.candidate (is_right c.first_side-first.result) c.write_side-a.ensures, c.requires.full.word)

pub slice_bounds-shared-end : goal.slice_bounds-shared-end
slice_bounds-shared-end c =
    omega (arith, few_written c.requires.split.candidate (is_right c.first_side-first.result) c.write_side-a.ensures, c.requires.full.output_x, c.output-x.ensures.value, c.output-x.auto.out)

pub slice_bounds-shared-end-2 : goal.slice_bounds-shared-end-2
slice_bounds-shared-end-2 c =
    sym (length-take-le _ _
    (omega (arith, few_written c.requires.split.candidate (is_right c.first_side-first.result) c.write_side-a.ensures, c.requires.full.output_x, c.output-x.ensures.value, c.output-x.auto.out)))

pub slice_bounds-shared-end-3 : goal.slice_bounds-shared-end-3
slice_bounds-shared-end-3 c =
    omega (arith, few_written c.requires.split.candidate (is_right c.other.result) c.write_side-b.ensures, c.requires.full.output_y, c.output-y.ensures.value, c.output-y.auto.out)

pub slice_bounds-shared-end-4 : goal.slice_bounds-shared-end-4
slice_bounds-shared-end-4 c =
    sym (length-take-le _ _
    (omega (arith, few_written c.requires.split.candidate (is_right c.other.result) c.write_side-b.ensures, c.requires.full.output_y, c.output-y.ensures.value, c.output-y.auto.out)))

pub overflow_cast-result : goal.overflow_cast-result
overflow_cast-result c = omega (arith, few_read c.requires.split.candidate (is_right c.first_side-first.result) c.write_side-a.ensures, c.input-read.ensures.value)

pub overflow_cast-result-4 : goal.overflow_cast-result-4
overflow_cast-result-4 c = omega (arith, few_written c.requires.split.candidate (is_right c.first_side-first.result) c.write_side-a.ensures, c.output-x.ensures.value)

pub overflow_cast-result-5 : goal.overflow_cast-result-5
overflow_cast-result-5 c = omega (arith, few_written c.requires.split.candidate (is_right c.other.result) c.write_side-b.ensures, c.output-y.ensures.value)

pub overflow_cast-result-6 : goal.overflow_cast-result-6
overflow_cast-result-6 c =
    let w = few_written c.requires.split.candidate (is_right c.first_side-first.result) c.write_side-a.ensures in
    let room = c.requires.full.output_x in
    omega (
      arith,
      c.shared-shared.ensures,
      few c.output-x.new.out (take c.output-y.result c.output-y.new.out) c.output-x.result (omega (arith, w, c.output-x.ensures.value, c.output-x.auto.out)),
      w,
      c.output-x.ensures.value,
    )

pub returns : goal.returns
returns c =
    let p = c.requires.split.candidate in
    let first = is_right c.first_side-first.result in
    let other = rw c.other.ensures at c.write_side-b.ensures in
    whole_showing c.args.t c.args.steps.now first p.whole c.requires.split.differ c.first_side-first.ensures
    (word_front p first c.write_side-a.ensures c.input-read.ensures.value c.input-read.ensures.word_after)
    c.write_side-a.ensures
    other
    (output_front p first c.write_side-a.ensures c.output-x.ensures.value c.output-x.ensures.out_after (accepting c.args.t p.whole first))
    (output_front p (not first) other c.output-y.ensures.value c.output-y.ensures.out_after (accepting c.args.t p.whole (not first)))
    c.shared-shared.ensures
