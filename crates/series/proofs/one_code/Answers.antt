use Rattle.std.proofs.Common.{◌∙◌, leb, arith}
use Rattle.transducer.specs.Transition.{outside}
use Rattle.transducer.specs.declared.Transition.{Transition}
use Rattle.joints.specs.Joint.{one_code_of}
use Rattle.series.proofs.MakeLaws.{all_taken}
use Rattle.series.proofs.one_code.Goals as goal

pub returns : goal.returns
unfolding one_code_of
returns c = c.all_short.ensures ∙ all_taken (λ (x : Transition). leb x.count 1) outside _ _ (omega arith)
