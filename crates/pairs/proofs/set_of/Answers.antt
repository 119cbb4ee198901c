-- `set_of` meets its contract. Assumes nothing.
use mathlib.Core.Path.{sym, ap, ◌∙◌}
use mathlib.Core.Bool.{Bool, false}
use mathlib.Core.List.{List}
use Rattle.std.proofs.Common.{arith}
use lib.Dec.{ltb}
use lib.ListN.{length-map}
use lib.Seq.{ext_get_or}
use Rattle.pairs.specs.UsefulPairs.{pair_set_of}
use Rattle.pairs.specs.declared.PairSet.{PairSet}
use Rattle.pairs.proofs.PairSetLaws.{pairs_of}
use Rattle.pairs.proofs.set_of.Goals as goal

pub returns : goal.returns
unfolding pair_set_of
returns c =
    let l = c.loop-v in
    let rank = c.args.rank.now in
    ap (λ (m : List Bool). let z : PairSet = record { member = m } in z)
    (ext_get_or false l.flag-items (pair_set_of rank).member (l.invariant.long ∙ sym (length-map rank (ltb 0) ∙ (omega arith)))
    (λ i h. l.invariant.tested i (omega arith) ∙ sym (pairs_of rank i)))
