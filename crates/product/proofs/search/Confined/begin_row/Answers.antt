-- `begin_row` meets its contract. Assumes nothing.
use Rattle.std.proofs.Common.{◌≡◌, ◌+◌, sym, ◌∙◌, arith, true≢false}
use Rattle.worklist.proofs.Stages.{rooted_skip}
use Rattle.product.specs.Numbers.{pair_of}
use Rattle.product.proofs.ConfinedLaws.{rooted_offer}
use Rattle.product.proofs.LabelLaws.{pair_first, pair_second}
use Rattle.product.proofs.search.Confined.begin_row.Goals as goal
use Rattle.product.proofs.search.Confined.begin_row.Goals.{then-contains, else-contains}

pub loop-q-preserved : goal.loop-q-preserved
loop-q-preserved c =
    let a = c.args in
    let q = c.loop-q.q in
    let first = pair_first a.p q (omega arith) in
    let second = pair_second a.p q (omega arith) in
    let next : pair_of a.p (q + 1) ≡ pair_of a.p q + 1 = omega arith in
    elim c.if-contains.branch [
      | then-contains w ↦
          rw next (rooted_offer c.loop-q.invariant (omega arith)
          (record { first = rw first c.requires.start; second = rw second (sym c.contains.ensures ∙ w.if-contains.true) })
          (rw w.found-is w.offer.ensures))
      | else-contains w ↦
          rw (next, w.found-is)
          (rooted_skip c.loop-q.invariant
          (λ b. true≢false (sym (rw second at b.start_pair.second) ∙ sym c.contains.ensures ∙ w.if-contains.false)))
    ]
