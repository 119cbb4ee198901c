use Rattle.std.proofs.Common.{◌≡◌, ℕ, ◌+◌, ◌<◌, get_or, refl, ◌∙◌, arith}
use borrow.Author.Count.{below_more}
use borrow.Author.Tests.{lt-ltb, le-ltb}
use Rattle.std.proofs.Math.ListN.{set, length-set, length-replicate}
use Rattle.std.proofs.Math.Seq.{get_or-set_same, get_or-set_other}
use Rattle.product.specs.Numbers.{most_pairs}
use Rattle.joints.specs.Found.{among}
use Rattle.series.specs.Result.{gather, pairs_below, state_of}
use Rattle.series.proofs.StateLaws.{state_next, state_stay}
use Rattle.series.proofs.table.number.Goals as goal
use Rattle.series.proofs.table.number.Goals.{then-flag-ne0, else-flag-ne0}

pub loop-v-init : goal.loop-v-init
unfolding pairs_below gather
loop-v-init c = record { long = length-replicate {A = ℕ} most_pairs 0; next = refl; low = omega arith; state = λ u h. absurd (omega arith) }

pub loop-v-preserved : goal.loop-v-preserved
loop-v-preserved c =
    let j = among c.args.pairs.now in
    let v = c.loop-v.v in
    let n = c.loop-v.numbering.count in
    let s = c.loop-v.numbering.states in
    let i = c.loop-v.invariant in
    let long = length-set s v n ∙ i.long in
    let below : (u : ℕ) → u < v + 1 → get_or (set s v n) u 0 ≡ state_of j u =
    below_more _ v (λ u h. get_or-set_other s v u n 0 (λ e. omega arith) ∙ i.state u h) (get_or-set_same s v n 0 (omega arith) ∙ i.next) in
    elim c.if-flag-ne0.branch [
      | then-flag-ne0 w ↦ rw w.numbering-is
          (record { long = long; next = state_next j v n (lt-ltb 0 _ (omega arith)) i.next; low = omega arith; state = below })
      | else-flag-ne0 w ↦ rw w.numbering-is
          (record { long = long; next = state_stay j v n (le-ltb 0 _ (omega arith)) i.next; low = omega arith; state = below })
    ]
