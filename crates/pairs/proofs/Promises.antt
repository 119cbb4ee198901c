-- What this layer promises to those above it. Assumes nothing.
use Rattle.product.specs.Numbers.{most_pairs}
use Rattle.pairs.specs.UsefulPairs.{found_of}
use Rattle.pairs.specs.Promises.{PairsPromised}
use Rattle.pairs.proofs.FreshLists.{filled}
use Rattle.pairs.proofs.PairSetLaws.{pair_low, same_pairs, at_most_pairs}

pub pairs_promised : PairsPromised
pairs_promised =
    record {
      no_links = filled 0 most_pairs;
      low = λ {t} {r} valid a p q h. pair_low (found_of r).set p q ((a.members valid p q).1 h);
      few = at_most_pairs;
      same = same_pairs;
    }
