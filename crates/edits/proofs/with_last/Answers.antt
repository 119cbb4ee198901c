use Rattle.std.proofs.Common.{sym, subst, ◌∙◌}
use Rattle.transducer.specs.Valid.{Valid}
use Rattle.transducer.proofs.LineLaws.{keeping_valid, appended_valid}
use Rattle.edits.proofs.Places.{placed_last}
use Rattle.edits.proofs.with_last.Goals as goal

pub keep-requires : goal.keep-requires
keep-requires c =
    let p = c.requires in
    let placed = placed_last _ p.valid p.shaped _ p.count_lt_most_transitions in
    (keeping_valid _).0 (subst Valid (sym placed) (appended_valid _ _ p.valid p.count_lt_most_transitions p.used))

pub returns : goal.returns
returns c = let p = c.requires in c.keep.ensures ∙ placed_last _ p.valid p.shaped _ p.count_lt_most_transitions
