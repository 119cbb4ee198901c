-- `set_at` meets its contract. Assumes nothing.
use Rattle.std.proofs.Common.{arith, refl, length-set}
use Rattle.transducer.specs.Limits.{most_states}
use Rattle.transducer.specs.Transition.{firsts}
use Rattle.held.specs.Held.{set_at}
use Rattle.held.proofs.FillLaws.{fill_turn, filled_all}
use Rattle.held.proofs.set_at.Invariants.{flag}
use Rattle.held.proofs.set_at.Goals as goal

pub loop-q-init : goal.loop-q-init
unfolding firsts
loop-q-init c = (refl, refl)

pub loop-q-preserved : goal.loop-q-preserved
loop-q-preserved c =
    let l = c.loop-q in
    (fill_turn (flag c.args.held.now c.args.at) l.inside-items l.q _ (omega arith) l.invariant.0 refl, simp length-set l.invariant.1)

pub returns : goal.returns
unfolding set_at
returns c =
    let l = c.loop-q in
    let all = filled_all (flag c.args.held.now c.args.at) l.inside-items l.q most_states (omega arith) l.invariant.1 l.invariant.0 in
    cc
