-- `search` meets its contract. Assumes nothing.
use Rattle.std.proofs.Common.{◌≡◌, ℕ, List, false, refl, get_or}
use Prim.Native.Nat.{zero, suc}
use lib.ListN.{replicate}
use Rattle.product.specs.Numbers.{most_pairs}
use Rattle.delays.specs.WaysOut.{WayLists}
use Rattle.equations.proofs.TestLaws.{valid, links_out}
use Rattle.equations.proofs.PairLaws.{flagged_none}
use Rattle.equations.proofs.SearchLaws.{order_led, meant, measured, places, tested}
use Rattle.equations.proofs.search.Goals as goal

-- no flag is set at first
none-set : (n v : ℕ) → get_or (replicate n false) v false ≡ false
none-set zero v = refl
none-set (suc n) zero = refl
none-set (suc n) (suc v) = none-set n v

-- the lists of the ways
ways_is : (x : WayLists) {written link label : List ℕ} → x.written ≡ written → x.link ≡ link → x.label ≡ label
    → x ≡ record { written = written; link = link; label = label; gap = x.gap }
ways_is x e f g = rw (← e, ← f, ← g) refl

pub of-written-requires : goal.of-written-requires
of-written-requires c = valid c.requires.listed.standing

pub invariant_of-links : goal.invariant_of-links
invariant_of-links c = record { links = links_out c.requires.listed.standing }

pub of-requires-clause-order : goal.of-requires-clause-order
of-requires-clause-order c = order_led c.requires.listed

pub invariant_of-tests : goal.invariant_of-tests
invariant_of-tests c =
    let w = c.of.ensures in
    rw (ways_is c.of.result w.written w.link w.label) (measured c.requires.listed c.requires.image_of c.of-written.ensures w.long w.gaps)

pub try_pairs-requires-clause-places : goal.try_pairs-requires-clause-places
try_pairs-requires-clause-places c =
    let w = c.of.ensures in
    places c.requires.listed c.requires.image_of c.of-written.ensures w.long w.gaps

pub try_pairs-requires-clause-flagged : goal.try_pairs-requires-clause-flagged
try_pairs-requires-clause-flagged c = flagged_none refl (none-set most_pairs)

pub returns : goal.returns
returns c =
    let w = c.of.ensures in
    tested c.requires.listed.standing (meant c.requires.listed c.requires.image_of c.of-written.ensures w.long w.gaps) c.try_pairs.result
    (rw (ways_is c.of.result w.written w.link w.label) at c.try_pairs.ensures)
