-- `flags_right` meets its contract. Assumes nothing.
use Rattle.std.proofs.Common.{arith, refl, rules, ◌≡◌, ◌∙◌, ◌*◌, ℕ, Bool, length, take, drop, leb, get_or}
use Rattle.std.proofs.lemmas.Iterator.{YieldsList-from_slice}
use Rattle.std.proofs.lemmas.Iterator.Search.{all_from_yields_List}
use Rattle.std.proofs.lemmas.List.{length-take, length-drop, get_or-take, get_or-drop}
use borrow.Author.Tests.{tests}
use Rattle.transducer.specs.Limits.{most_states}
use Rattle.transducer.proofs.Bools.{all_listed}
use Rattle.held.specs.Held.{starts_at, flags_right_of}
use Rattle.held.proofs.FillLaws.{same_below}
use Rattle.held.proofs.flags_right.Goals as goal

abbrev right : ℕ → Bool
right flag = leb flag 1

pub returns : goal.returns
unfolding flags_right_of
returns c =
    let held = c.args.held.now in
    let flags = take (3 * most_states) (drop starts_at held) in
    let long : length flags ≡ 3 * most_states = omega (arith, length-take (3 * most_states) (drop starts_at held), length-drop starts_at held) in
    all_from_yields_List right _ _ c.all.result c.all.ensures.ran (YieldsList-from_slice flags c.iter.ensures.rest) (λ x b q k. search (rules, tests))
    ∙ (rw long at (all_listed right 0 flags)
    ∙ same_below (3 * most_states) (λ k. right (get_or flags k 0)) _ (λ k h. rw (get_or-take (3 * most_states) (drop starts_at held) k 0 h, get_or-drop) refl))
