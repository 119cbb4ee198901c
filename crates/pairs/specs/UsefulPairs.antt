-- Sets of pairs of states, and what `useful_pairs` answers.
use Rattle.std.specs.Prelude.{◌≡◌, Bool, true, false, cond, ◌&&◌, List, [], ◌∷◌, map, ◌↔◌, ℕ, suc, ltb, length, get_or, replicate, Result, Ok, Err}
use Rattle.transducer.specs.Limits.{most_states}
use Rattle.transducer.specs.Refusals.{invalid, number_of}
use Rattle.transducer.specs.Accepted.{accepted_of}
use Rattle.transducer.specs.Useful.{UsefulPair}
use Rattle.transducer.specs.declared.refusals.Refusal.{Refusal}
use Rattle.transducer.specs.declared.Transducer.{Transducer}
use Rattle.product.specs.Numbers.{most_pairs, pair_of}
use Rattle.pairs.specs.declared.PairSet.{PairSet}
use Rattle.pairs.specs.declared.UsefulPairs.{UsefulPairs}

-- whether the pair (p, q) is in the set; a pair with a state over 31 is in no set
unfoldable pub has_pair : PairSet → ℕ → ℕ → Bool
has_pair s p q = ltb p most_states && ltb q most_states && get_or s.member (pair_of p q) false

-- whether the pair with the number v is in the set
abbrev pub is_member : PairSet → ℕ → Bool
is_member s v = get_or s.member v false

-- the set with no pair
unfoldable pub no_pairs_of : PairSet
no_pairs_of = record { member = replicate most_pairs false }

-- the pairs whose number in a list is not 0
unfoldable pub pair_set_of : List ℕ → PairSet
pair_set_of l = record { member = map (ltb 0) l }

-- how many of the flags are true: of a set, how many pairs are in it
unfoldable pub count_true : List Bool → ℕ
count_true [] = 0
count_true (true ∷ l) = suc (count_true l)
count_true (false ∷ l) = count_true l

-- the set with no pair, and that it has none
abbrev pub none_found : UsefulPairs
none_found = record { set = no_pairs_of; count = 0 }

-- the pairs that an answer has: with a refusal none
abbrev pub found_of : Result UsefulPairs Refusal → UsefulPairs
found_of (Ok found) = found
found_of (Err refusal) = none_found

-- what `useful_pairs` answers: a refusal exactly where the transducer is not accepted, and then the empty set; else the set of the useful pairs;
-- and how many are in the set (document 01: u)
pub record UsefulPairsOf (t : Transducer) (r : Result UsefulPairs Refusal) : Type 0 where
  pub number : number_of r ≡ cond (accepted_of t) 0 invalid
  pub members : accepted_of t ≡ true → (p q : ℕ) → (has_pair (found_of r).set p q ≡ true) ↔ UsefulPair t p q
  pub refused : accepted_of t ≡ false → (found_of r).set ≡ no_pairs_of
  pub counted : (found_of r).count ≡ count_true (found_of r).set.member
  pub long : length (found_of r).set.member ≡ most_pairs
