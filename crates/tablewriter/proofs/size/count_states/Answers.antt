-- `count_states` meets its contract: the places that hold true are the states of the set. Assumes nothing.
use mathlib.Core.Path.{◌∙◌}
use borrow.Author.Tests.{tests}
use Rattle.std.proofs.Common.{rules, arith}
use Rattle.std.proofs.lemmas.Iterator.{YieldsList-from_slice}
use Rattle.std.proofs.lemmas.Iterator.Consumers.{YieldsList-from_filter, count_from_yields_List}
use Rattle.std.proofs.lemmas.List.Sums.{length-filter}
use Rattle.tablewriter.proofs.LengthLaws.{size_counted}
use Rattle.tablewriter.proofs.size.count_states.Goals as goal

pub returns : goal.returns
returns c =
    let member = c.args.s.member in
    count_from_yields_List c.filter.result _ c.count.ensures.ran
    (YieldsList-from_filter _ (λ x. x) (YieldsList-from_slice member (cc)) c.filter.ensures.closure (λ x r q k. search (rules, tests)))
    ∙ length-filter (λ x. x) member ∙ size_counted c.args.s (omega arith)
