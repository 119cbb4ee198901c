-- `expand` meets its contract. Assumes nothing.
use Rattle.std.proofs.Common.{◌≡◌, refl, arith}
use Rattle.worklist.proofs.Stages.{scanned_skip, scanned_visit, expanded}
use Rattle.product.proofs.IndexLaws.{next_follows}
use Rattle.wordsearch.proofs.MoveLaws.{leads_once, leads_low}
use Rattle.wordsearch.proofs.expand.Goals as goal
use Rattle.wordsearch.proofs.expand.Goals.{in-Some, in_default}

pub loop-l-preserved : goal.loop-l-preserved
loop-l-preserved g c =
    let lent = c.requires.lent in
    let ready = c.requires.ready in
    let i = c.loop-l.invariant in
    let f = next_follows c.kept.ensures i.along c.loop-l-test.true c.next_along-l.ensures in
    record {
      along = record { most = f.most; leaves = f.leaves };
      scanned = λ starts g.
          scanned_skip
          (elim c.match-target.branch [
            | in-Some w ↦
                let e = rw c.node-node.ensures at w.in-Some.ensures.1 in
                scanned_visit (i.scanned starts g) refl ready.place (leads_low lent (ready.grown.below _ ready.place) e) e
                (λ v x. leads_once e x)
                (rw w.found-is (rw w.from.ensures at w.visit.ensures))
            | in_default w ↦
                rw w.found-is
                (scanned_skip (i.scanned starts g)
                (λ k v low high x. let q : k ≡ c.loop-l.l = omega arith in w.in_default.ensures v (rw c.node-node.ensures (rw q at x))))
          ])
          (λ k v low high e. f.least k low high e.leaves);
    }

pub returns : goal.returns
returns g c = λ starts g.
    expanded (c.loop-l.invariant.scanned starts g) (λ k v e. omega (arith, e.leaves.used, c.kept.ensures.few))
