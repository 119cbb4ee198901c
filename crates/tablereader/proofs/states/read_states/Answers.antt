-- `read_states` meets its contract. Assumes nothing.
use mathlib.Core.Path.{sym, ◌∙◌}
use Rattle.std.proofs.Common.{◌-◌, ◌≤◌, arith}
use native.Mathlib.Nat.{add-zero, sub-zero}
use Rattle.tablereader.specs.States.{states_from}
use Rattle.tablereader.proofs.StateRecords.{state_below, state_turn, states_done}
use Rattle.tablereader.proofs.states.read_states.Goals as goal

pub loop-i-init : goal.loop-i-init
unfolding states_from
loop-i-init c = rw (sub-zero, add-zero c.args.start, add-zero c.args.first, c.empty-set.ensures)

pub overflow_cast-state : goal.overflow_cast-state
overflow_cast-state c = omega (arith, state_below _ _ _ _ _ _ c.state_record-state.ensures c.requires.1)

pub overflow_add-low : goal.overflow_add-low
overflow_add-low c = omega (arith, state_below _ _ _ _ _ _ c.state_record-state.ensures c.requires.1)

pub loop-i-preserved : goal.loop-i-preserved
loop-i-preserved c =
    sym
    (state_turn _ _ _ _ _ _ _ _ _ _ _ _ _ _ _ _ (omega arith) (omega arith) (omega arith) c.state_record-state.ensures c.outcome_of.ensures c.and-outcome.ensures
    c.with-set.ensures)
    ∙ c.loop-i.invariant

pub returns : goal.returns
returns c = let none : c.args.count - c.loop-i.i ≤ 0 = omega arith in sym (states_done _ _ _ _ _ _ _ _ _ none) ∙ c.loop-i.invariant
