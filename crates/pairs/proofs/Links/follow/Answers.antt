-- `follow` meets its contract: no pair has a link at first, and the pair at each place gets its own. Assumes nothing.
use Rattle.std.proofs.Common.{arith, rules, refl, length-set}
use Rattle.product.specs.Numbers.{most_pairs}
use Rattle.pairs.proofs.FreshLists.{filled}
use Rattle.pairs.proofs.WayLaws.{linked_more}
use Rattle.pairs.proofs.Links.follow.Goals as goal

pub loop-place-init : goal.loop-place-init
loop-place-init c =
    record {
      linked =
          record {
            links = λ i h. absurd (omega arith);
            steps = λ i h. absurd (omega arith);
            only = λ v n. absurd (n (filled 0 most_pairs v));
          };
      long = refl;
      long_label = search rules;
    }

pub loop-place-preserved : goal.loop-place-preserved
loop-place-preserved c =
    let k = c.loop-place.invariant in
    record {
      linked =
          rw (c.node-v.ensures, c.via.ensures)
          (linked_more c.requires k.long k.long_label (omega arith) (rw c.parent.ensures at c.link_to.ensures) k.linked);
      long = omega (arith, length-set c.loop-place.self.link);
      long_label = omega (arith, length-set c.loop-place.self.label);
    }
