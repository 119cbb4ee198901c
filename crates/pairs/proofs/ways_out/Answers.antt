-- `ways_out` meets its contract: the ways out are read off the search from the final states. Assumes nothing.
use Rattle.transducer.proofs.AcceptedLaws.{accepted_valid}
use Rattle.pairs.proofs.PairSetLaws.{answer}
use Rattle.pairs.proofs.WayLaws.{tree_way, tree_order}
use Rattle.pairs.proofs.ways_out.Goals as goal

pub by_input_reversed-back-requires : goal.by_input_reversed-back-requires
by_input_reversed-back-requires c = accepted_valid _ c.requires.t_value

pub search_back-requires-clause-valid : goal.search_back-requires-clause-valid
search_back-requires-clause-valid c = accepted_valid _ c.requires.t_value

pub returns-clause-ways_out : goal.returns-clause-ways_out
returns-clause-ways_out c =
    let tree = c.search_back.ensures in
    record {
      pairs = rw c.found_pairs.ensures (answer c.requires.t_value tree);
      way_out = rw c.found_pairs.ensures (tree_way tree c.follow.ensures.linked c.follow.ensures.long.0);
    }

pub returns-clause-discovered : goal.returns-clause-discovered
returns-clause-discovered c = tree_order c.search_back.ensures c.follow.ensures.linked
