-- `lines_in` meets its contract. Assumes nothing.
use Rattle.std.proofs.Common.{arith, refl, ap, ◌∙◌, ◌+◌, ◌*◌, length-set}
use Rattle.std.proofs.lemmas.List.{length-replicate}
use Rattle.transducer.specs.Limits.{most_transitions}
use Rattle.transducer.specs.Transition.{firsts}
use Rattle.records.specs.Letters.{most_fields}
use Rattle.tablereader.specs.Transitions.{transition_with}
use Rattle.held.specs.Held.{lines_at, line_at, lines_in_of}
use Rattle.held.proofs.FillLaws.{fill_turn, filled_all, rest}
use Rattle.held.proofs.lines_in.Goals as goal

pub loop-l-init : goal.loop-l-init
unfolding firsts
loop-l-init c = (refl, simp length-replicate)

pub loop-l-preserved : goal.loop-l-preserved
unfolding line_at
loop-l-preserved c =
    let l = c.loop-l in
    let held = c.args.held.now in (
      fill_turn (line_at held) l.line-items l.l _ (omega arith) l.invariant.0 (c.line_in.ensures ∙ ap transition_with (rest held (lines_at + l.l * most_fields))),
      simp length-set l.invariant.1,
    )

pub returns : goal.returns
unfolding lines_in_of
returns c =
    let l = c.loop-l in
    filled_all (line_at c.args.held.now) l.line-items l.l most_transitions (omega arith) l.invariant.1 l.invariant.0
