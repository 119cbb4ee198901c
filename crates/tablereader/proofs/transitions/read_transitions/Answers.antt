-- `read_transitions` meets its contract. Assumes nothing.
use mathlib.Core.Path.{sym, ◌∙◌}
use Rattle.std.proofs.Common.{◌-◌, ◌≤◌, arith}
use native.Mathlib.Nat.{add-zero, sub-zero}
use Rattle.tablereader.specs.Transitions.{transitions_from}
use Rattle.tablereader.proofs.TransitionRecords.{transition_turn, transitions_done, transition_next, transition_small}
use Rattle.tablereader.proofs.transitions.read_transitions.Goals as goal

pub loop-i-init : goal.loop-i-init
unfolding transitions_from
loop-i-init c = record { reads = rw (sub-zero, add-zero, c.blank.ensures); place = omega arith }

pub transition_of-requires : goal.transition_of-requires
transition_of-requires c = transition_small _ _ _ c.requires.count_bound.2 _ c.transition_record-one.ensures

pub loop-i-preserved : goal.loop-i-preserved
loop-i-preserved c =
    let one = c.transition_record-one.ensures in
    record {
      reads =
          sym
          (transition_turn _ _ _ _ _ _ _ _ _ _ _ _ _ _ (omega arith) (omega arith) one c.outcome_of.ensures c.and-outcome.ensures c.transition_of.ensures)
          ∙ c.loop-i.invariant.reads;
      place = omega (arith, transition_next _ _ _ _ one);
    }

pub returns : goal.returns
returns c = let none : c.args.count - c.loop-i.i ≤ 0 = omega arith in sym (transitions_done _ _ _ _ _ _ _ _ none) ∙ c.loop-i.invariant.reads
