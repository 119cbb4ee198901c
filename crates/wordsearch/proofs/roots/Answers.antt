-- `roots` meets its contract. Assumes nothing.
use Rattle.std.proofs.Common.{sym, ◌∙◌, true≢false, arith}
use Rattle.transducer.proofs.Facts.{in_below}
use Rattle.worklist.proofs.Stages.{rooted_none, rooted_skip, rooted_visit}
use Rattle.wordsearch.proofs.roots.Goals as goal
use Rattle.wordsearch.proofs.roots.Goals.{then-contains, else-contains}

pub loop-q-init : goal.loop-q-init
loop-q-init g c = rooted_none c.requires.blank

pub loop-q-preserved : goal.loop-q-preserved
loop-q-preserved g c =
    let r = c.loop-q.invariant in
    elim c.if-contains.branch [
      | then-contains w ↦
          rooted_visit 0 r (omega arith) (sym c.contains.ensures ∙ w.if-contains.true) (rw w.found-is w.visit.ensures)
      | else-contains w ↦ rw w.found-is (rooted_skip r (λ z. true≢false (sym z ∙ sym c.contains.ensures ∙ w.if-contains.false)))
    ]

pub returns : goal.returns
returns g c =
    let r = c.loop-q.invariant in
    record { grown = r.grown; done = λ v _ z. r.done v (omega (arith, in_below _ v z)) z }
