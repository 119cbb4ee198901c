-- The pairs at the places below `place` have their links.
use Rattle.std.proofs.Common.{◌≡◌, length}
use Rattle.product.specs.Numbers.{most_pairs}
use Rattle.pairs.specs.Ways.{Linked}
use Rattle.pairs.proofs.Links.follow.Given as goal

abbrev pub invariant-loop-place : goal.invariant-loop-place
invariant-loop-place l =
    record {
      linked : Linked l.found.order l.found.parent l.found.via l.self.link l.self.label l.place;
      long : length l.self.link ≡ most_pairs;
      long_label : length l.self.label ≡ most_pairs;
    }
