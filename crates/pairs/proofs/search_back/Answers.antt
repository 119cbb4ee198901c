-- `search_back` meets its contract: the first search is confined to the pairs of states of the transducer, the second to what the first has found.
-- Assumes nothing.
use Rattle.transducer.specs.Reversal.{reversed_of}
use Rattle.product.proofs.MarkLaws.{marked_states}
use Rattle.pairs.proofs.UsefulLaws.{exact_image}
use Rattle.pairs.proofs.TreeLaws.{tree_out}
use Rattle.pairs.proofs.search_back.Goals as goal

pub returns : goal.returns
unfolding reversed_of
returns c =
    let r = c.requires in
    tree_out r.valid (marked_states r.valid.few_states r.valid.few_states c.mark_states.ensures)
    (exact_image r.image_of (rw (c.new.ensures.left, c.new.ensures.right) at c.search.ensures))
    (exact_image r.image_of_2 (rw (c.new-2.ensures.left, c.new-2.ensures.right, c.again.ensures.ranks) at c.search-2.ensures))
