-- The ranks are zeros, and the other lists as long as they were.
use Rattle.std.proofs.Common.{rules, refl, ap, ◌∙◌}
use Rattle.std.specs.Prelude.{replicate}
use Rattle.worklist.proofs.Stages.{blank_sized}
use Rattle.worklist.proofs.Search.again.Goals as goal

pub invariant_of-self : goal.invariant_of-self
invariant_of-self g c =
    let ranks = c.fill.ensures.after (λ y h. search rules) ∙ ap (λ n. replicate n 0) c.self.told2 in
    let small = rw c.self.told2 at c.self.invariant.small in
    blank_sized {N = g.row.N} (record { order = c.self.told; rank = ranks; parent = c.self.told3; via = c.self.told4; count = refl; small = small })
