-- `try_pair` meets its contract. Assumes nothing.
use Rattle.std.proofs.Common.{◌≡◌, ap, rules}
use Rattle.std.specs.Prelude.{option_map}
use Rattle.equations.specs.Loops.{TestLists}
use Rattle.equations.specs.declared.At.TheVariants.{Step}
use Rattle.equations.proofs.PairLaws.{pair_steps}
use Rattle.equations.proofs.testing.Tests.try_pair.Goals as goal

pub returns : goal.returns
returns c =
    let m = rw c.self.view_is at c.self.invariant in
    let w = ap (λ (x : TestLists). x.ways) c.self.view_is in
    let step = c.first_failing-step.result in
    let e : c.map.result ≡ option_map (λ s. record { from = c.args.i; at = Step s }) step = search rules in
    rw e (pair_steps step m c.requires.counts (rw w at c.is_level.ensures) c.is_start.ensures c.if-is_level-is_start.false c.first_failing-step.ensures)
