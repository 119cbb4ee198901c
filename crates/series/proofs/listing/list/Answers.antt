use Rattle.std.proofs.Common.{◌≡◌, Err, refl, ◌∙◌, List, [], ℕ, ◌+◌, ◌≤◌, ◌<◌, get_or, rules, arith}
use borrow.Author.Tests.{lt-ltb, le-ltb}
use Rattle.product.specs.Numbers.{most_pairs}
use Rattle.joints.specs.Found.{among}
use Rattle.series.specs.Result.{gather}
use Rattle.series.specs.Parts.{rows_of, steps_of, Adds}
use Rattle.series.proofs.GatherLaws.{gather_none}
use Rattle.series.proofs.ListLaws.{gather_add, gather_skip, gather_over}
use Rattle.series.proofs.listing.list.Invariants.{from}
use Rattle.series.proofs.listing.list.Goals as goal
use Rattle.series.proofs.listing.list.Goals.{then-flag-ne0+in_ok-rows, else-flag-ne0}

-- the steps from a pair that is joined, and from one that is not
module _ (left right joined : List ℕ) (v : ℕ) where
  some : (get_or joined v 0 ≡ 0 → ⊥) → rows_of left right (among joined) v ≡ from left right joined v
  some n = rw (lt-ltb 0 (get_or joined v 0) (omega (arith, n)))

  none : (k : ℕ) → v ≤ k → k < v + 1 → get_or joined v 0 ≡ 0 → from left right joined k ≡ []
  none k low high e = let is : k ≡ v = omega arith in rw (is, le-ltb 0 (get_or joined v 0) (omega arith))

pub loop-v-init : goal.loop-v-init
loop-v-init c = let a = c.args in c.new-list.ensures ∙ gather_none (from a.series.now.product.left.now a.series.now.product.right.now a.series.now.pairs.now)

pub returns-in_err-rows : goal.returns-in_err-rows
unfolding steps_of
returns-in_err-rows c =
    let a = c.args in
    let f = from a.series.now.product.left.now a.series.now.product.right.now a.series.now.pairs.now in
    let same : c.from_residual.result ≡ Err c.in_err-rows.field-0.0 = search rules in
    let h = rw (some a.series.now.product.left.now a.series.now.product.right.now a.series.now.pairs.now c.loop-v.v c.if-flag-ne0.true) at c.rows.ensures in
    let all : Adds {A = Unit {0}} [] (gather most_pairs f) [] (Err c.in_err-rows.field-0.0) =
    gather_over f c.loop-v.v [] c.loop-v.invariant h c.in_err-rows.was refl most_pairs (omega arith) in
    rw same (record { listed = tt; many = all.many; refusal = all.refusal })

pub loop-v-preserved : goal.loop-v-preserved
loop-v-preserved c =
    let a = c.args in
    let v = c.loop-v.v in
    let f = from a.series.now.product.left.now a.series.now.product.right.now a.series.now.pairs.now in
    elim c.if-flag-ne0.branch [
      | then-flag-ne0+in_ok-rows w ↦
          w.list-is ∙ gather_add f v [] c.loop-v.invariant (rw (some a.series.now.product.left.now a.series.now.product.right.now a.series.now.pairs.now v w.if-flag-ne0.true) at w.rows.ensures) w.in_ok-rows.was
      | else-flag-ne0 w ↦
          w.list-is ∙ gather_skip f v [] c.loop-v.invariant _ (omega arith) (λ k low high. none a.series.now.product.left.now a.series.now.product.right.now a.series.now.pairs.now v k low high w.if-flag-ne0.false)
    ]

pub returns : goal.returns
unfolding steps_of
returns c =
    let e : c.loop-v.v ≡ most_pairs = omega arith in
    record { listed = rw e at c.loop-v.invariant; many = tt; refusal = tt }
