-- `ways_in` meets its contract: the search finds the useful pairs again, and the ways in are read off it. Assumes nothing.
use Rattle.transducer.proofs.AcceptedLaws.{accepted_valid}
use Rattle.pairs.proofs.UsefulLaws.{exact_image}
use Rattle.pairs.proofs.TreeLaws.{tree_in}
use Rattle.pairs.proofs.MarkLaws.{marked_useful}
use Rattle.pairs.proofs.WayLaws.{useful_way}
use Rattle.pairs.proofs.ways_in.Goals as goal

pub returns : goal.returns
returns c =
    let r = c.requires in
    let tree =
    tree_in (accepted_valid _ r.t_value) (marked_useful r.t_value r.useful_pairs_of c.mark-allowed.ensures)
    (exact_image r.image_of (rw (c.new.ensures.left, c.new.ensures.right) at c.search.ensures)) in
    useful_way r.t_value tree c.follow.ensures.linked c.follow.ensures.long.0 r.useful_pairs_of
