-- The ways are those of the pairs that are found. Assumes nothing.
use Rattle.std.proofs.Common.{◌≡◌, ℕ, List, true, length, arith}
use Rattle.transducer.specs.Accepted.{accepted_of}
use Rattle.transducer.specs.declared.Transducer.{Transducer}
use Rattle.transducer.proofs.AcceptedLaws.{accepted_valid}
use Rattle.product.specs.Numbers.{most_pairs}
use Rattle.pairs.specs.Ways.{WaysOut, Discovered}
use Rattle.pairs.specs.declared.UsefulPairs.{UsefulPairs}
use Rattle.equations.specs.Tests.{Listed}
use Rattle.equations.proofs.TestLaws.{links_out}
use Rattle.equations.proofs.SearchLaws.{order_led, places}
use Rattle.equations.proofs.tests.ways_seen.Goals as goal

-- what the tests would be told
listed : {t : Transducer} {found : UsefulPairs} {link label order : List ℕ} {n : ℕ} → accepted_of t ≡ true → WaysOut t found link label
    → (length link ≡ most_pairs) × (length label ≡ most_pairs) → Discovered t link order n → found.count ≡ n → Listed t n link label order
listed {found = found} valid ways long discovered is =
    record {
      found = found;
      standing = record { valid = valid; ways = ways; long_out = long.0; long_out_step = long.1 };
      is = is;
      discovered = discovered;
    }

pub by_input-m-requires : goal.by_input-m-requires
by_input-m-requires g c = accepted_valid _ c.requires

pub of-written-requires : goal.of-written-requires
of-written-requires g c = accepted_valid _ c.requires

pub invariant_of-links : goal.invariant_of-links
invariant_of-links g c =
    let e = c.ways_out.ensures in
    record { links = links_out (listed c.requires e.ways_out e.long e.discovered e.count).standing }

pub of-ways-requires-clause-order : goal.of-ways-requires-clause-order
of-ways-requires-clause-order g c =
    let e = c.ways_out.ensures in
    order_led (listed c.requires e.ways_out e.long e.discovered e.count)

pub loop-place-init : goal.loop-place-init
loop-place-init g c =
    let e = c.ways_out.ensures in
    let w = c.of-ways.ensures in
    places (listed c.requires e.ways_out e.long e.discovered e.count) c.by_input-m.ensures c.of-written.ensures w.long w.gaps

pub left_behind-rest-requires-clause-counts : goal.left_behind-rest-requires-clause-counts
left_behind-rest-requires-clause-counts g c =
    let h = c.loop-place.invariant in
    rw c.node-v.ensures (h.low c.loop-place.place (omega arith), h.counts c.loop-place.place (omega arith))
