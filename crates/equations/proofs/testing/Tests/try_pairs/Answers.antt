-- `try_pairs` meets its contract. Assumes nothing.
use Rattle.std.proofs.Common.{◌≡◌, ◌+◌, ◌-◌, arith}
use Rattle.equations.proofs.PairLaws.{behind_one}
use Rattle.equations.proofs.testing.Tests.try_pairs.Goals as goal

pub loop-place-preserved : goal.loop-place-preserved
loop-place-preserved c =
    let i = c.loop-place.invariant in
    let p = c.in_default.ensures in
    let one : c.loop-place.place ≡ c.loop-place.place - 1 + 1 = omega arith in
    record { behind = behind_one c.args.found.now.order (λ k a b. i.behind k (omega arith) b) (rw c.node-v.ensures at p.0); flagged = p.1 }
