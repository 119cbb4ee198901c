-- No node is found, and each place is free.
use Rattle.std.proofs.Common.{refl}
use Rattle.std.proofs.lemmas.List.{length-replicate}
use Rattle.worklist.proofs.Stages.{blank_sized}
use Rattle.worklist.proofs.Search.new.Goals as goal

pub invariant_of-result : goal.invariant_of-result
invariant_of-result g c =
    let long = length-replicate g.row.N 0 in
    blank_sized {N = g.row.N} (record { order = long; rank = refl; parent = long; via = long; count = refl; small = c.requires.small })
