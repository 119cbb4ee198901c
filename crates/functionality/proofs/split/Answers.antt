-- `split` meets its contract: the walk that is found is shown. Assumes nothing.
use Rattle.std.proofs.Common.{arith}
use Rattle.transducer.proofs.AcceptedLaws.{accepted_valid}
use Rattle.pairs.proofs.Promises.{pairs_promised}
use Rattle.functionality.proofs.VerdictLaws.{refusal_none, full, showing_within, counted, decides_split}
use Rattle.functionality.proofs.split.Goals as goal

pub show-counts-requires-clause-split : goal.show-counts-requires-clause-split
show-counts-requires-clause-split c =
    let f = c.walk-place.ensures in
    let few = pairs_promised.few c.requires.standing.ways.pairs in
    record {
      candidate = record { valid = accepted_valid _ c.requires.standing.valid; whole = f.apart.whole; short = omega (arith, f.short, few) };
      differ = f.apart.differ;
    }

pub show-counts-requires-clause-full : goal.show-counts-requires-clause-full
show-counts-requires-clause-full c = full _ c.requires.full

pub returns-clause-decided : goal.returns-clause-decided
returns-clause-decided c =
    let s = c.requires.standing in
    decides_split (refusal_none _ _ s.valid c.requires.full) (counted s.valid s.ways.pairs)
    (showing_within c.walk-place.ensures.short c.show-counts.ensures.showing)
