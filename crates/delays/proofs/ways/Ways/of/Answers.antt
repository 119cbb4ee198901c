-- `of` meets its contract: one more pair has its gap. Assumes nothing.
use Rattle.std.proofs.Common.{◌≡◌, ◌<◌, ℕ, sym, ◌∙◌, arith, length-set}
use Rattle.std.proofs.lemmas.List.{length-replicate}
use Rattle.outputs.proofs.OutputLaws.{zeros}
use Rattle.product.specs.Numbers.{most_pairs}
use Rattle.delays.proofs.WayOutLaws.{gaps_none, gaps_more, grounds}
use Rattle.delays.proofs.ways.Ways.of.Goals as goal

pub loop-place-init : goal.loop-place-init
loop-place-init c = record { gaps = gaps_none (zeros most_pairs); long = length-replicate {A = ℕ} most_pairs 0 }

pub gap_of-requires-clause-gap_is : goal.gap_of-requires-clause-gap_is
gap_of-requires-clause-gap_is c =
    let low : c.loop-place.place < c.args.found.now.count = omega arith in
    rw c.node-v.ensures (λ n. c.loop-place.invariant.gaps.placed _ (c.requires.order.earlier c.loop-place.place low n))

pub loop-place-preserved : goal.loop-place-preserved
loop-place-preserved c =
    let i = c.loop-place.invariant in
    let low : c.loop-place.place < c.args.found.now.count = omega arith in
    let inside = (c.requires.order.ways c.loop-place.place low).inside in
    record { gaps = gaps_more i.gaps (sym c.node-v.ensures) (omega (arith, inside, i.long, c.node-v.ensures)) c.gap_of.ensures; long = length-set c.loop-place.gap _ _ ∙ i.long }

pub invariant_of-result : goal.invariant_of-result
invariant_of-result c =
    let all : c.loop-place.place ≡ c.args.found.now.count = omega arith in
    grounds (record { outputs = c.requires.entries; links = c.args.links.links }) c.requires.order c.loop-place.invariant.long (rw all at c.loop-place.invariant.gaps)

pub returns-clause-gaps : goal.returns-clause-gaps
returns-clause-gaps c =
    let all : c.loop-place.place ≡ c.args.found.now.count = omega arith in
    rw all at c.loop-place.invariant.gaps
