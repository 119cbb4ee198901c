use Rattle.std.proofs.Common.{sym, subst, ◌∙◌}
use Rattle.transducer.specs.Valid.{Valid}
use Rattle.transducer.proofs.LineLaws.{keeping_valid}
use Rattle.transducer.proofs.RemovalLaws.{removed_valid}
use Rattle.edits.proofs.Places.{copied_down}
use Rattle.edits.proofs.close_up.Goals as goal

pub keep-requires : goal.keep-requires
keep-requires c =
    let p = c.requires in
    let closed = copied_down _ p.valid p.shaped p.l_lt_count c.copy_from_slice.ensures.after c.clear.ensures in
    (keeping_valid _).0 (subst Valid (sym closed) (removed_valid _ _ p.valid p.l_lt_count))

pub returns : goal.returns
returns c =
    let p = c.requires in
    c.keep.ensures ∙ copied_down _ p.valid p.shaped p.l_lt_count c.copy_from_slice.ensures.after c.clear.ensures
