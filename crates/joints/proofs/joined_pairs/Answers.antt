-- `joined_pairs` meets its contract: the first search is confined to the pairs of states of the two transducers, the second to what the first has
-- found. Assumes nothing.
use Rattle.transducer.specs.Reversal.{reversed_of}
use Rattle.product.proofs.MarkLaws.{marked_states}
use Rattle.joints.proofs.FoundLaws.{pairs_found}
use Rattle.joints.proofs.joined_pairs.Goals as goal

pub returns : goal.returns
unfolding reversed_of
returns c =
    let a = c.requires in
    rw c.ranks.ensures
    (pairs_found
    (record { valid = a.valid; valid' = a.valid_2; one_code = a.first_value; image = a.image_of; image' = a.image_of_2 })
    c.first_reversed-left.ensures
    c.second_reversed-right.ensures
    (marked_states a.valid.few_states a.valid_2.few_states c.mark_states.ensures)
    (rw c.again.ensures.ranks c.find.ensures)
    (rw (c.new.ensures.left, c.new.ensures.right) at c.find-2.ensures))
