-- What the layers above may take from this one beside the contracts of `useful_pairs`, `ways_out` and `ways_in` (`UsefulPairsOf`, `WaysOut`,
-- `Discovered`, `WayIn`): document 01, "the verdict knows the pairs only by what their layer promises". The verdict's crates, `equations` and
-- `functionality`, cite these contracts and the fields of `PairsPromised`, and no other law of this crate. `pairs_promised` of proofs/Promises.antt proves it.
use Rattle.std.specs.Prelude.{◌≡◌, true, ℕ, ◌≤◌, ◌<◌, length, get_or, replicate, Result}
use Rattle.transducer.specs.Limits.{most_states}
use Rattle.transducer.specs.Accepted.{accepted_of}
use Rattle.transducer.specs.Useful.{UsefulPair}
use Rattle.transducer.specs.declared.refusals.Refusal.{Refusal}
use Rattle.transducer.specs.declared.Transducer.{Transducer}
use Rattle.product.specs.Numbers.{most_pairs}
use Rattle.pairs.specs.UsefulPairs.{has_pair, found_of, UsefulPairsOf}
use Rattle.pairs.specs.declared.PairSet.{PairSet}
use Rattle.pairs.specs.declared.UsefulPairs.{UsefulPairs}

pub record PairsPromised : Type 0 where
  -- a list that has 0 for each pair has no link: links begin as one
  pub no_links : (v : ℕ) → get_or {A = ℕ} (replicate most_pairs 0) v 0 ≡ 0
  -- of an accepted transducer, the two states of a useful pair are below 32, so that its number tells which they are
  pub low : {t : Transducer} {r : Result UsefulPairs Refusal} → accepted_of t ≡ true → UsefulPairsOf t r
      → (p q : ℕ) → UsefulPair t p q → (p < most_states) × (q < most_states)
  -- at most 1,024 pairs are counted (document 01: u)
  pub few : {t : Transducer} {r : Result UsefulPairs Refusal} → UsefulPairsOf t r → (found_of r).count ≤ most_pairs
  -- sets that hold the same pairs are the same, and so are their counts: a transducer has one u
  pub same : (s s' : PairSet) → length s.member ≡ most_pairs → length s'.member ≡ most_pairs
      → ((p q : ℕ) → has_pair s p q ≡ has_pair s' p q) → s ≡ s'
