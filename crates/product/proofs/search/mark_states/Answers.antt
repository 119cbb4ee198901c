-- `mark_states` meets its contract. Assumes nothing.
use Rattle.std.proofs.Common.{◌&&◌, ltb, ◌/◌, ◌%◌, ◌∙◌, arith}
use Rattle.product.specs.Confined.{both_below}
use Rattle.product.proofs.MarkLaws.{marked_more, bit_of}
use Rattle.product.proofs.search.mark_states.Goals as goal

pub loop-v-preserved : goal.loop-v-preserved
unfolding both_below
loop-v-preserved c =
    let v = c.loop-v.v in
    marked_more (omega arith) (c.from.ensures ∙ bit_of (ltb (v / 32) c.args.n && ltb (v % 32) c.args.n2)) c.loop-v.invariant
