-- `places_ok` meets its contract: the transitions that are counted, and those beyond. Assumes nothing.
use Rattle.std.proofs.Common.{◌≡◌, ◌∙◌, sym, rules, length, take, drop}
use mathlib.Core.Bool.{Bool, ◌&&◌}
use Rattle.std.proofs.lemmas.List.{take_rest}
use Rattle.std.proofs.lemmas.Iterator.{YieldsList-from_slice}
use Rattle.std.proofs.lemmas.Iterator.Search.{all_from_yields_List}
use borrow.Author.Tests.{tests}
use Rattle.transducer.specs.Limits.{most_transitions}
use Rattle.transducer.specs.Transition.{outside}
use Rattle.transducer.specs.Valid.{line_of, clear_of, codes_of, place_of}
use Rattle.transducer.specs.declared.Transition.{Transition}
use Rattle.transducer.proofs.Bools.{all_split}
use Rattle.transducer.proofs.validity.places_ok.Goals as goal

abbrev clear : Transition → Bool
clear v = clear_of v && codes_of v

pub returns-then-all : goal.returns-then-all
unfolding place_of
returns-then-all c =
    let t = c.args.t in
    let beyond =
    all_from_yields_List clear _ _ c.all-then-all.result c.all-then-all.ensures.ran
    (YieldsList-from_slice (drop t.count t.transitions) (c.iter-then-all.ensures.rest ∙ take_rest t.transitions t.count)) (λ x b q k. search (rules, tests))
    in
    let counted =
    all_from_yields_List (line_of t.states) _ _ c.all.result c.all.ensures.ran
    (YieldsList-from_slice (take t.count t.transitions) (cc)) (λ x b q k. search (rules, tests))
    in
    let long : length t.transitions ≡ most_transitions = search rules in
    beyond ∙ rw (sym counted ∙ c.if-all.true, long) at (all_split (line_of t.states) clear outside t.count t.transitions)

pub returns-else-all : goal.returns-else-all
unfolding place_of
returns-else-all c =
    let t = c.args.t in
    let counted =
    all_from_yields_List (line_of t.states) _ _ c.all.result c.all.ensures.ran
    (YieldsList-from_slice (take t.count t.transitions) (cc)) (λ x b q k. search (rules, tests))
    in
    let long : length t.transitions ≡ most_transitions = search rules in
    c.if-all.false ∙ rw (sym counted ∙ c.if-all.false, long) at (all_split (line_of t.states) clear outside t.count t.transitions)
