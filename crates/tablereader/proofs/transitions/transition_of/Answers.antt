-- `transition_of` meets its contract. Assumes nothing.
use mathlib.Core.Path.{◌≡◌, refl, sym, ap, ◌∙◌}
use Prim.Native.Nat.{ℕ}
use Rattle.std.proofs.Common.{arith}
use lib.ListN.{length-set}
use lib.Seq.{take_all}
use Rattle.transducer.specs.Limits.{most_outputs}
use Rattle.transducer.specs.Transition.{firsts}
use Rattle.tablereader.specs.Transitions.{code_of, transition_with}
use Rattle.tablereader.proofs.TransitionRecords.{output_turn}
use Rattle.tablereader.proofs.transitions.transition_of.Goals as goal

pub loop-j-init : goal.loop-j-init
unfolding firsts
loop-j-init c = record { stored = refl; long = refl }

pub loop-j-preserved : goal.loop-j-preserved
loop-j-preserved c =
    let l = c.loop-j in
    record { stored = output_turn c.args.values l.code-items l.j (omega arith) l.invariant.stored; long = simp length-set l.invariant.long }

pub returns : goal.returns
unfolding transition_with
returns c =
    let l = c.loop-j in
    let all : l.j ≡ most_outputs = omega arith in
    let output : l.code-items ≡ firsts most_outputs (code_of c.args.values) =
    sym (take_all l.j l.code-items (omega arith)) ∙ l.invariant.stored ∙ ap (λ (k : ℕ). firsts k (code_of c.args.values)) all
    in
    cc
