-- `transition_record` meets its contract: the ranges that are lent, as many as the count asks for, are those of the definition. Assumes nothing.
use mathlib.Core.Path.{sym, ap, ◌∙◌}
use Rattle.std.proofs.Common.{arith}
use lib.Seq.{length-take-le}
use Rattle.transducer.specs.Limits.{most_outputs}
use Rattle.records.specs.Letters.{letter_l}
use Rattle.records.specs.Reading.{range, record_at}
use Rattle.records.proofs.RangeLaws.{number_within}
use Rattle.tablereader.specs.Transitions.{transition_record_of}
use Rattle.tablereader.proofs.TransitionRecords.{ranges_taken}
use Rattle.tablereader.proofs.transitions.transition_record.Goals as goal

pub slice_bounds-ranges-end-2 : goal.slice_bounds-ranges-end-2
slice_bounds-ranges-end-2 c =
    let few = (number_within _ _ (range 0 most_outputs) _ (rw c.new-outputs.ensures at c.number_at-count.ensures) (omega arith)).1 in
    rw c.copy_from_slice.ensures.after (omega arith)

pub slice_bounds-read_record-end : goal.slice_bounds-read_record-end
slice_bounds-read_record-end c =
    let few = (number_within _ _ (range 0 most_outputs) _ (rw c.new-outputs.ensures at c.number_at-count.ensures) (omega arith)).1 in
    rw c.copy_from_slice.ensures.after (sym (length-take-le _ _ (omega arith)))

pub returns : goal.returns
unfolding transition_record_of
returns c =
    let a = c.args in
    let count = rw c.new-outputs.ensures at c.number_at-count.ensures in
    c.read_record.ensures
    ∙ rw (c.copy_from_slice.ensures.after, c.new-state.ensures, c.new-input.ensures, c.new-outputs.ensures, c.new-ranges.ensures)
    (ap (record_at a.text.now a.at letter_l) (ranges_taken a.text.now a.at a.n _ count))
