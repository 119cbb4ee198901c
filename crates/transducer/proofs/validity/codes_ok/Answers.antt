-- `codes_ok` meets its contract: the codes that are counted, and those beyond. Assumes nothing.
use Rattle.std.proofs.Common.{◌≡◌, ◌∙◌, sym, rules, length, take, drop}
use lib.Dec.{eqb}
use mathlib.Core.Bool.{Bool}
use Rattle.std.proofs.lemmas.List.{take_rest}
use Rattle.std.proofs.lemmas.Iterator.{YieldsList-from_slice}
use Rattle.std.proofs.lemmas.Iterator.Search.{all_from_yields_List}
use borrow.Author.Tests.{tests}
use Rattle.transducer.specs.Limits.{most_outputs}
use Rattle.transducer.specs.Valid.{codes_of, code_of, is_code}
use Rattle.transducer.specs.declared.OutputCode.{OutputCode}
use Rattle.transducer.proofs.Bools.{all_split}
use Rattle.transducer.proofs.validity.codes_ok.Goals as goal

abbrev code : OutputCode → Bool
code x = is_code x.0

abbrev zero : OutputCode → Bool
zero x = eqb x.0 0

pub returns-then-all : goal.returns-then-all
unfolding codes_of code_of
returns-then-all c =
    let v = c.args.v in
    let beyond =
    all_from_yields_List zero _ _ c.all-then-all.result c.all-then-all.ensures.ran (YieldsList-from_slice (drop v.count v.output) (c.iter-then-all.ensures.rest ∙ take_rest v.output v.count)) (λ x b q k. search (rules, tests))
    in
    let counted = all_from_yields_List code _ _ c.all.result c.all.ensures.ran (YieldsList-from_slice (take v.count v.output) (cc)) (λ x b q k. search (rules, tests)) in
    let long : length v.output ≡ most_outputs = search rules in
    beyond ∙ rw (sym counted ∙ c.if-all.true, long) at (all_split code zero (record { 0 = 0 }) v.count v.output)

pub returns-else-all : goal.returns-else-all
unfolding codes_of code_of
returns-else-all c =
    let v = c.args.v in
    let counted = all_from_yields_List code _ _ c.all.result c.all.ensures.ran (YieldsList-from_slice (take v.count v.output) (cc)) (λ x b q k. search (rules, tests)) in
    let long : length v.output ≡ most_outputs = search rules in
    c.if-all.false ∙ rw (sym counted ∙ c.if-all.false, long) at (all_split code zero (record { 0 = 0 }) v.count v.output)
