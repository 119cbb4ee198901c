-- Where the node is not found, one of the ranks is 0, so that there is room for one more.
use Rattle.std.proofs.Common.{arith}
use Rattle.worklist.proofs.Visited.{room, added_sized}
use Rattle.worklist.proofs.Search.visit.Goals as goal

pub bounds-self-inside-place : goal.bounds-self-inside-place
bounds-self-inside-place g c = omega (arith, room c.self.invariant (omega arith) c.if-self-node-eq0.true)

pub bounds-self-inside-place-then-self-node-eq0 : goal.bounds-self-inside-place-then-self-node-eq0
bounds-self-inside-place-then-self-node-eq0 g c = omega (arith, room c.self.invariant (omega arith) c.if-self-node-eq0.true)

pub bounds-self-inside-place-then-self-node-eq0-2 : goal.bounds-self-inside-place-then-self-node-eq0-2
bounds-self-inside-place-then-self-node-eq0-2 g c = omega (arith, room c.self.invariant (omega arith) c.if-self-node-eq0.true)

pub overflow_add-self : goal.overflow_add-self
overflow_add-self g c = omega (arith, room c.self.invariant (omega arith) c.if-self-node-eq0.true)

pub overflow_add-self-then-self-node-eq0 : goal.overflow_add-self-then-self-node-eq0
overflow_add-self-then-self-node-eq0 g c = omega (arith, room c.self.invariant (omega arith) c.if-self-node-eq0.true)

pub invariant_of-self : goal.invariant_of-self
invariant_of-self g c = added_sized c.args.from c.args.label c.self.invariant (omega arith) c.if-self-node-eq0.true
