-- i leaves the second state, and no transition before it, from l on, that leaves that state has the key.
use Rattle.std.proofs.Common.{◌-◌}
use Rattle.product.specs.Numbers.{no_transition, second_of}
use Rattle.product.proofs.IndexLaws.{Seeking}
use Rattle.product.proofs.steps.Product.matching.Given as goal

abbrev pub invariant-loop-i : goal.invariant-loop-i
invariant-loop-i l = Seeking l.self.on_right (second_of l.pair) l.key l.l l.i

abbrev pub decreases-loop-i : goal.decreases-loop-i
decreases-loop-i l = no_transition - l.i
