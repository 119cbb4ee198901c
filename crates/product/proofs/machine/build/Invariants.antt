-- The transitions from l on are on record.
use Rattle.std.proofs.Common.{◌≤◌}
use Rattle.transducer.specs.Valid.{Valid}
use Rattle.product.specs.Machine.{view_of}
use Rattle.product.proofs.MachineLaws.{Built}
use Rattle.product.proofs.machine.build.Given as goal

abbrev pub invariant-loop-l : goal.invariant-loop-l
invariant-loop-l l = record {
  valid : Valid (view_of l.back l.t);
  built : Built (view_of l.back l.t) l.written l.places l.l;
  within : l.l ≤ (view_of l.back l.t).count;
}
