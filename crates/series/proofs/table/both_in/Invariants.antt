-- The loop's invariant: the set is built from the joined pairs below v, which are n.
use Rattle.std.proofs.Common.{◌≡◌}
use Rattle.transducer.proofs.StateSetLaws.{Built}
use Rattle.joints.specs.Found.{among}
use Rattle.series.specs.Result.{state_of}
use Rattle.series.proofs.SetLaws.{flag}
use Rattle.series.proofs.table.both_in.Given as goal

abbrev pub invariant-loop-v : goal.invariant-loop-v
invariant-loop-v l = record {
  next : l.n ≡ state_of (among l.flags) l.v;
  built : Built (flag (among l.flags) l.s l.s2) l.set l.n;
}
