-- `line_in` meets its contract. Assumes nothing.
use Rattle.std.proofs.Common.{arith, refl, sym, ap, ℕ, length-set}
use Rattle.std.proofs.lemmas.List.{get_or-drop}
use Rattle.transducer.specs.Limits.{most_outputs}
use Rattle.transducer.specs.Transition.{firsts}
use Rattle.transducer.specs.declared.OutputCode.{OutputCode}
use Rattle.tablereader.specs.Transitions.{code_of, transition_with}
use Rattle.held.proofs.FillLaws.{fill_turn, filled_all}
use Rattle.held.proofs.line_in.Goals as goal

pub loop-j-init : goal.loop-j-init
unfolding firsts
loop-j-init c = (refl, refl)

pub loop-j-preserved : goal.loop-j-preserved
loop-j-preserved c =
    let l = c.loop-j in
    let line = c.args.line.now in (
      fill_turn (code_of line) l.code-items l.j _ (omega arith) l.invariant.0
          (ap (λ (n : ℕ). let z : OutputCode = record { 0 = n } in z) (sym (get_or-drop 4 line l.j 0))),
      simp length-set l.invariant.1,
    )

pub returns : goal.returns
unfolding transition_with
returns c =
    let l = c.loop-j in
    let all = filled_all (code_of c.args.line.now) l.code-items l.j most_outputs (omega arith) l.invariant.1 l.invariant.0 in
    cc
