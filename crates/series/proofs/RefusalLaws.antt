-- What it says that nothing is refused, that 8 is not the number of accepted transducers, and that the refusals 8 and 15 do not look at the joined pairs.
-- Assumes nothing.
use mathlib.Core.Path.{◌≡◌, refl}
use mathlib.Core.Bool.{Bool, true, false, cond, ◌&&◌, true≢false}
use mathlib.Core.Logic.{◌≢◌}
use Prim.Native.Nat.{ℕ, ◌≤◌, ◌<◌}
use native.Mathlib.Omega.{arith}
use borrow.Author.Tests.{leb-true}
use lib.Dec.{eqb, leb}
use lib.ListN.{length}
use Rattle.transducer.specs.Limits.{most_states, most_transitions}
use Rattle.transducer.specs.Refusals.{invalid, more_than_one_code, many_pairs, many_transitions}
use Rattle.transducer.specs.Transition.{at}
use Rattle.transducer.specs.Valid.{Valid}
use Rattle.transducer.specs.Accepted.{accepted_of}
use Rattle.transducer.specs.declared.Transducer.{Transducer}
use Rattle.transducer.proofs.Bools.{and_left, and_right, and_both}
use Rattle.transducer.proofs.AcceptedLaws.{accepted_valid}
use Rattle.joints.specs.Joint.{one_code_of}
use Rattle.joints.proofs.StepLaws.{at_most_one}
use Rattle.series.specs.Result.{pairs, lines}
use Rattle.series.specs.Join.{size_refusal, refusal_of, joinable}

-- one test of the order of refusals
passes : (test : Bool) (next n : ℕ) → 1 ≤ n → cond test next n ≡ 0 → (test ≡ true) × (next ≡ 0)
passes true next n h e = (refl, e)
passes false next n h e = absurd (omega arith)

-- nothing is refused
pub record Taken (first second : Transducer) (joined : ℕ → Bool) : Type 0 where
  pub valid : Valid first
  pub valid' : Valid second
  pub one : (l : ℕ) → l < first.count → (at first l).count ≤ 1
  pub few_pairs : length (pairs joined) ≤ most_states
  pub few_lines : length (lines first second joined) ≤ most_transitions
  pub joins : joinable first second ≡ true

pub not_refused : (first second : Transducer) (joined : ℕ → Bool) → refusal_of first second joined ≡ 0 → Taken first second joined
unfolding refusal_of size_refusal joinable
not_refused first second joined e =
    let accepted = passes (accepted_of first && accepted_of second) _ invalid (omega arith) e in
    let codes = passes (one_code_of first) _ more_than_one_code (omega arith) accepted.1 in
    let states = passes (leb (length (pairs joined)) most_states) _ many_pairs (omega arith) codes.1 in
    let transitions = passes (leb (length (lines first second joined)) most_transitions) 0 many_transitions (omega arith) states.1 in
    record {
      valid = accepted_valid first (and_left (accepted_of first) (accepted_of second) accepted.0);
      valid' = accepted_valid second (and_right (accepted_of first) (accepted_of second) accepted.0);
      one = at_most_one first codes.0;
      few_pairs = leb-true _ _ states.0;
      few_lines = leb-true _ _ transitions.0;
      joins = and_both accepted.0 codes.0;
    }

-- accepted transducers are not refused with 8
pub not_invalid : (first second : Transducer) (joined : ℕ → Bool) → accepted_of first ≡ true → accepted_of second ≡ true
    → refusal_of first second joined ≢ invalid
unfolding refusal_of size_refusal
not_invalid first second joined a a' =
    rw (a, a')
    (go (one_code_of first) (leb (length (pairs joined)) most_states) (leb (length (lines first second joined)) most_transitions))
  where
    go : (x y z : Bool) → cond x (cond y (cond z 0 many_transitions) many_pairs) more_than_one_code ≢ invalid
    go true true true = λ e. omega arith
    go true true false = λ e. omega arith
    go true false z = λ e. omega arith
    go false y z = λ e. omega arith

-- where the two cannot be joined the refusal is 8 or 15, whatever the pairs
pub refused_anyway : (first second : Transducer) (j k : ℕ → Bool) → joinable first second ≡ false
    → (refusal_of first second j ≡ refusal_of first second k) × (eqb (refusal_of first second j) 0 ≡ false)
unfolding refusal_of joinable
refused_anyway first second j k e =
    go (accepted_of first && accepted_of second) (one_code_of first) e (size_refusal first second j) (size_refusal first second k)
  where
    go : (a b : Bool) → (a && b) ≡ false → (m n : ℕ)
        → (cond a (cond b m more_than_one_code) invalid ≡ cond a (cond b n more_than_one_code) invalid)
        × (eqb (cond a (cond b m more_than_one_code) invalid) 0 ≡ false)
    go true true e m n = absurd (true≢false e)
    go true false e m n = (refl, refl)
    go false b e m n = (refl, refl)
