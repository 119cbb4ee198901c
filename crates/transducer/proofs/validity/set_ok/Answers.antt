-- `set_ok` meets its contract. Assumes nothing.
use Rattle.std.proofs.Common.{◌≡◌, ◌∙◌, rules, length, get_or}
use Rattle.std.proofs.lemmas.Iterator.{YieldsList-from_slice}
use Rattle.std.proofs.lemmas.Iterator.Adapters.{YieldsList-from_skip}
use Rattle.std.proofs.lemmas.Iterator.Search.{all_from_yields_List}
use borrow.Author.Tests.{tests}
use lib.Dec.{ltb}
use mathlib.Core.Bool.{not, false, ◌||◌}
use Rattle.transducer.specs.Limits.{most_states}
use Rattle.transducer.specs.Valid.{set_of}
use Rattle.transducer.proofs.Bools.{all_rest, all_same}
use Rattle.transducer.proofs.StateSetLaws.{has_listed}
use Rattle.transducer.proofs.validity.set_ok.Goals as goal

pub returns : goal.returns
unfolding set_of
returns c =
    let n = c.args.n in
    let member = c.args.s.member in
    let long : length member ≡ most_states = search rules in
    let rest = rw long at (all_rest not false n member) in
    all_from_yields_List not _ _ _ c.all.ensures.ran (YieldsList-from_skip n (YieldsList-from_slice member (cc)) (cc)) (λ x b q k. search (rules, tests))
    ∙ (rest ∙ all_same most_states (λ k. ltb k n || not (get_or member k false)) _ (λ k. rw (has_listed c.args.s k long)))
