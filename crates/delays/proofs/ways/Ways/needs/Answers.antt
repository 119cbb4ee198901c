-- `needs` meets its contract: the way out is followed, and written, until there is enough. Assumes nothing.
use Rattle.std.proofs.Common.{◌≡◌, ◌≢◌, ℕ, ◌+◌, ◌-◌, Some, refl, get_or, arith}
use Rattle.std.specs.Prelude.{Option, None, MatchOption, IsSome}
use Rattle.witness.specs.Sides.{is_right}
use Rattle.witness.proofs.SideLaws.{taken_small}
use Rattle.delays.proofs.PendingLaws.{pending_onward, pending_more, pending_done}
use Rattle.delays.proofs.ways.Ways.needs.Goals as goal

-- there is a next pair
there : {n : ℕ} (r : Option ℕ) → MatchOption r (n ≡ 0) (λ next. n ≡ next + 1) → n ≢ 0 → IsSome r
there None e h = absurd (h e)
there (Some x) e h = refl

pub put-to-requires-clause-l_le_no_transition : goal.put-to-requires-clause-l_le_no_transition
put-to-requires-clause-l_le_no_transition c =
    let counts = rw (← c.self.view_is) at c.requires.counts in
    let lack = c.lack.ensures in
    let g = c.self.invariant in
    let ahead = pending_onward c.loop-to.invariant (omega arith) (g.gaps c.args.v counts.0 counts.1) g.lists.links (omega (arith, lack)) in
    rw (c.taken.ensures, c.label.ensures) (taken_small (is_right c.args.side) _ ahead.low_label)

pub unwrap-node-requires : goal.unwrap-node-requires
unwrap-node-requires c =
    let counts = rw (← c.self.view_is) at c.requires.counts in
    let lack = c.lack.ensures in
    let g = c.self.invariant in
    let ahead = pending_onward c.loop-to.invariant (omega arith) (g.gaps c.args.v counts.0 counts.1) g.lists.links (omega (arith, lack)) in
    there c.next.result c.next.ensures (λ z. omega (arith, ahead.next_is))

pub loop-to-smaller : goal.loop-to-smaller
loop-to-smaller c =
    let counts = rw (← c.self.view_is) at c.requires.counts in
    let lack = c.lack.ensures in
    let g = c.self.invariant in
    let ahead = pending_onward c.loop-to.invariant (omega arith) (g.gaps c.args.v counts.0 counts.1) g.lists.links (omega (arith, lack)) in
    let next = rw c.unwrap-node.ensures at c.next.ensures in
    let same : get_or c.self.inside.links.link.now c.loop-to.node 0 - 1 ≡ c.unwrap-node.result = omega (arith, next) in
    omega (arith, (rw same at ahead).fewer)

pub loop-to-preserved : goal.loop-to-preserved
loop-to-preserved c =
    let counts = rw (← c.self.view_is) at c.requires.counts in
    let lack = c.lack.ensures in
    let room = rw (← c.self.view_is) at c.requires.most_outputs_in_bounds in
    let g = c.self.invariant in
    let ahead = pending_onward c.loop-to.invariant (omega arith) (g.gaps c.args.v counts.0 counts.1) g.lists.links (omega (arith, lack)) in
    let next = rw c.unwrap-node.ensures at c.next.ensures in
    let same : get_or c.self.inside.links.link.now c.loop-to.node 0 - 1 ≡ c.unwrap-node.result = omega (arith, next) in
    pending_more c.loop-to.invariant (omega arith) g.lists (rw same at ahead) (omega (arith, lack, room)) c.put-to.auto.word
    (rw (c.taken.ensures, c.label.ensures) at c.put-to.ensures)

pub returns : goal.returns
returns c =
    let counts = rw (← c.self.view_is) at c.requires.counts in
    let lack = c.lack.ensures in
    rw (← c.self.view_is, lack) (pending_done c.loop-to.invariant (omega arith) (c.self.invariant.gaps c.args.v counts.0 counts.1) (omega (arith, lack)))
