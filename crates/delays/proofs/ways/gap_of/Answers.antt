-- `gap_of` meets its contract: one step before a pair whose gap is known. Assumes nothing.
use Rattle.std.proofs.Common.{◌≡◌, ◌-◌, ap, ◌∙◌, true, false, get_or, arith}
use Rattle.witness.specs.Sides.{taken_of}
use Rattle.witness.proofs.SideLaws.{taken_small}
use Rattle.outputs.specs.Outputs.{count_at}
use Rattle.delays.specs.WaysOut.{Lists, GapIs}
use Rattle.delays.proofs.WayOutLaws.{Onward, onward_to, gap_ends, gap_low, gap_onward}
use Rattle.delays.proofs.ways.gap_of.Goals as goal
use Rattle.delays.proofs.ways.gap_of.Goals.{In-Some, After-count-right}

lists : (c : In-Some) → Lists c.args.written.now c.args.links.now.link.now c.args.links.now.label.now
lists c = record { outputs = c.requires.entries; links = c.args.links.now.links }

ahead : (c : In-Some) → Onward c.args.links.now.link.now c.args.links.now.label.now c.args.written.now c.args.v c.in-Some.next
ahead c = onward_to c.args.links.now.links c.args.written.now c.requires.led c.in-Some.ensures

known : (c : In-Some) → GapIs c.args.written.now c.args.links.now.link.now c.args.links.now.label.now c.in-Some.next (get_or c.args.gap.now c.in-Some.next 0)
known c =
    let same : get_or c.args.links.now.link.now c.args.v 0 - 1 ≡ c.in-Some.next = omega (arith, c.in-Some.ensures) in
    rw same at (c.requires.gap_is (λ z. omega (arith, c.in-Some.ensures)))

left_is : (c : After-count-right) → c.count-left.result ≡ count_at c.args.written.now (taken_of false (get_or c.args.links.now.label.now c.args.v 0))
left_is c = c.count-left.ensures ∙ ap (count_at c.args.written.now) (c.taken.ensures ∙ ap (taken_of false) c.label-label.ensures)

right_is : (c : After-count-right) → c.count-right.result ≡ count_at c.args.written.now (taken_of true (get_or c.args.links.now.label.now c.args.v 0))
right_is c = c.count-right.ensures ∙ ap (count_at c.args.written.now) (c.taken-2.ensures ∙ ap (taken_of true) c.label-label.ensures)

pub returns-in_default : goal.returns-in_default
returns-in_default c = gap_ends c.requires.led c.in_default.ensures

pub overflow_add-result : goal.overflow_add-result
overflow_add-result c =
    let d = (goal.at.overflow_add-result c).In-Some in
    let few = (lists d).outputs.few _ (taken_small true _ (ahead d).low_label) in
    omega (arith, right_is (goal.at.overflow_add-result c).After-count-right, few, gap_low (lists d) (ahead d).led_next (known d))

pub overflow_sub-result : goal.overflow_sub-result
overflow_sub-result c =
    let d = (goal.at.overflow_sub-result c).In-Some in
    let few = (lists d).outputs.few _ (taken_small false _ (ahead d).low_label) in
    omega (arith, left_is (goal.at.overflow_sub-result c).After-count-right, few, gap_low (lists d) (ahead d).led_next (known d))

pub returns : goal.returns
returns c =
    let d = (goal.at.returns c).In-Some in
    let e = (goal.at.returns c).After-count-right in
    gap_onward (lists d) (ahead d) (known d) (left_is e) (right_is e)
