-- `count_outputs` meets its contract: the counts of the transitions are summed. Assumes nothing.
use mathlib.Core.Path.{◌∙◌}
use Rattle.std.proofs.Common.{rules, ◌<◌, ◌^◌, take, arith}
use Rattle.std.specs.List.{sum_by}
use Rattle.std.proofs.lemmas.Iterator.{YieldsList-from_slice, YieldsList-from_map}
use Rattle.std.proofs.lemmas.Iterator.Consumers.{fits_by_from_yields_list, sum_by_from_yields_List}
use Rattle.transducer.specs.declared.Transition.{Transition}
use Rattle.tablewriter.proofs.LengthLaws.{outputs_summed, few_outputs}
use Rattle.tablewriter.proofs.size.count_outputs.Goals as goal

pub sum-requires-clause-fits : goal.sum-requires-clause-fits
sum-requires-clause-fits c =
    let t = c.args.t in
    let lines = take t.count t.transitions in
    let few : sum_by (λ (v : Transition). v.count) lines < 2 ^ 64 = omega (arith, outputs_summed t t.count (omega arith), few_outputs t c.requires t.count (omega arith), c.requires.few_transitions) in
    fits_by_from_yields_list (λ (v : Transition). v.count) lines c.map.result _
    (YieldsList-from_map _ (λ (v : Transition). v.count) (YieldsList-from_slice lines (cc)) c.map.ensures.closure (λ x r q k. search rules)) few

pub returns : goal.returns
returns c =
    let t = c.args.t in
    let lines = take t.count t.transitions in
    sum_by_from_yields_List (λ (v : Transition). v.count) lines c.map.result _ c.sum.ensures.ran
    (YieldsList-from_map _ (λ (v : Transition). v.count) (YieldsList-from_slice lines (cc)) c.map.ensures.closure (λ x r q k. search rules))
    ∙ outputs_summed t t.count (omega arith)
