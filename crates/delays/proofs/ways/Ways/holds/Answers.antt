-- `holds` meets its contract. Assumes nothing.
use Rattle.std.proofs.Common.{take, get_or, arith, length-take-le}
use Rattle.std.proofs.lemmas.Bool.Decides.{Decides-eqb}
use Rattle.std.proofs.lemmas.Slice.Eq.{slice_eq-Decides}
use Rattle.delays.specs.Needs.{Even}
use Rattle.delays.proofs.NeedLaws.{sides_level, held}
use Rattle.delays.proofs.BufferLaws.{appends_kept}
use Rattle.delays.proofs.ways.Ways.holds.Goals as goal

pub returns-clause-held : goal.returns-clause-held
returns-clause-held c =
    let n = c.needs.inside in
    let even = rw (← c.needs.view_is) at c.requires.even in
    let tells = slice_eq-Decides Decides-eqb (take c.write_side-end.result c.write_side.new.word) (take c.write_side-end.result c.write_side-end.new.word) c.eq.result c.eq.ensures in
    let long = length-take-le n.right_len n.right (omega (arith, c.needs.invariant)) in
    let long' = length-take-le n.left_len n.left (omega (arith, c.needs.invariant)) in
    let here : Even c.args.self.now.written n.right_len n.left_len c.args.step.label (get_or c.args.self.now.gap c.args.step.to 0) = omega (arith, even, long, long') in
    rw (← c.needs.view_is)
    (held c.write_side.ensures c.write_side-end.ensures (sides_level c.args.step.label c.requires.is here c.write_side.ensures c.write_side-end.ensures) tells)

pub returns-clause-kept : goal.returns-clause-kept
returns-clause-kept c =
    let r = appends_kept (omega (arith, c.needs.invariant)) c.write_side.ensures in
    let l = appends_kept (omega (arith, c.needs.invariant)) c.write_side-end.ensures in
    rw (r, l) c.needs.view_is
