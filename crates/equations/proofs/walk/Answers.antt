-- `walk` meets its contract: at an uneven pair of start states the way out of it is such a walk; at a step one of two walks is, since the sides of both
-- cannot have the same output. Assumes nothing.
use Rattle.std.proofs.Common.{◌≡◌, rules, length}
use Rattle.product.specs.Numbers.{most_pairs}
use Rattle.equations.proofs.PlaceLaws.{way_stands}
use Rattle.equations.proofs.TestLaws.{links_out, led_out, links_in, led_in, way_fails, round_candidate, round_fails, through_fails}
use Rattle.equations.proofs.walk.Goals as goal

pub leave-end-requires-clause-led : goal.leave-end-requires-clause-led
leave-end-requires-clause-led c = led_out c.requires.standing c.requires.differing.useful

pub returns-in-Start : goal.returns-in-Start
returns-in-Start c =
    let s = c.requires.standing in
    let d = c.requires.differing in
    let z = rw c.in-Start.is at d.differs in
    way_fails s _ d.useful z.0 (way_stands c.requires.steps_len (led_out s d.useful) c.leave-end.ensures) z.1

pub round-round-requires-clause-enters : goal.round-round-requires-clause-enters
round-round-requires-clause-enters c = led_in c.requires.standing c.ways_in.ensures c.requires.differing.useful

pub round-round-requires-clause-leaves : goal.round-round-requires-clause-leaves
round-round-requires-clause-leaves c = led_out c.requires.standing c.requires.differing.useful

pub differs-requires : goal.differs-requires
differs-requires c = round_candidate c.requires.standing c.ways_in.ensures _ c.requires.differing.useful c.round-round.ensures

pub returns-then-differs : goal.returns-then-differs
returns-then-differs c =
    round_fails c.requires.standing c.ways_in.ensures _ c.requires.differing.useful c.round-round.ensures
    (c.differs.ensures.different c.if-differs.true)

pub through-requires-clause-enters : goal.through-requires-clause-enters
through-requires-clause-enters c = led_in c.requires.standing c.ways_in.ensures c.requires.differing.useful

pub through-requires-clause-leaves : goal.through-requires-clause-leaves
through-requires-clause-leaves c = led_out c.requires.standing (rw c.in-Step.is at c.requires.differing.differs).0

pub returns : goal.returns
returns c =
    let d = c.requires.differing in
    let z = rw c.in-Step.is at d.differs in
    through_fails c.requires.standing c.ways_in.ensures _ _ _ d.useful z.0 z.1 c.round-round.ensures (c.differs.ensures.same c.if-differs.false)
    c.through.ensures z.2

pub invariant_of-out : goal.invariant_of-out
invariant_of-out c = record { links = links_out c.requires.standing }

pub invariant_of-out-2 : goal.invariant_of-out-2
invariant_of-out-2 c = record { links = links_out c.requires.standing }

pub invariant_of-into : goal.invariant_of-into
invariant_of-into c =
    let long : length c.ways_in.new.into.link ≡ most_pairs = search rules in
    let long' : length c.ways_in.new.into.label ≡ most_pairs = search rules in
    record { links = links_in c.requires.standing c.ways_in.ensures long long' }
