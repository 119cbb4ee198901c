-- `allowed_pairs` meets its contract: one more number is passed. Assumes nothing.
use Rattle.std.proofs.Common.{◌+◌, ℕ, ltb, take, count_by, refl, sym, ◌∙◌, ap, arith}
use Rattle.std.proofs.lemmas.Bool.{lt-ltb, le-ltb}
use Rattle.std.proofs.lemmas.List.Sums.{count_by-le-length, count_by_more_no, count_by_more_yes}
use lib.Seq.{length-take-le, take_all}
use Rattle.product.proofs.search.allowed_pairs.Goals as goal
use Rattle.product.proofs.search.allowed_pairs.Goals.{then-number-gt0, else-number-gt0}

pub loop-number-init : goal.loop-number-init
loop-number-init c = refl

pub overflow_add-count : goal.overflow_add-count
overflow_add-count c =
    let passed = take c.loop-number.number-index c.args.allowed.now in
    let few = count_by-le-length {X = ℕ} (λ number. ltb 0 number) passed in
    omega (arith, c.loop-number.invariant, few, length-take-le c.loop-number.number-index c.args.allowed.now (omega (arith, c.told-allowed)))

pub loop-number-preserved : goal.loop-number-preserved
loop-number-preserved c =
    let i = c.loop-number.number-index in
    let list = c.args.allowed.now in
    elim c.if-number-gt0.branch [
      | then-number-gt0 w ↦
          w.count-is ∙ ap (λ n. n + 1) c.loop-number.invariant
          ∙ sym (count_by_more_yes {X = ℕ} (λ number. ltb 0 number) list i 0 (omega (arith, c.told-allowed)) (lt-ltb _ _ w.if-number-gt0.true))
      | else-number-gt0 w ↦
          w.count-is ∙ c.loop-number.invariant
          ∙ sym (count_by_more_no {X = ℕ} (λ number. ltb 0 number) list i 0 (omega (arith, c.told-allowed)) (le-ltb _ _ w.if-number-gt0.false))
    ]

pub returns-clause-counted : goal.returns-clause-counted
returns-clause-counted c =
    c.loop-number.invariant
    ∙ ap (count_by {X = ℕ} (λ number. ltb 0 number)) (take_all c.loop-number.number-index c.args.allowed.now (omega (arith, c.told-allowed)))
