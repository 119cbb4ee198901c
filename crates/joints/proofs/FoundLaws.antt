-- The two searches find exactly the joined pairs. The first finds all pairs that are reached. These are closed under joint steps, so that the second,
-- over the reversed transducers and confined to them, finds all of them that finish. Assumes nothing.
use mathlib.Core.Path.{◌≡◌, subst}
use mathlib.Core.Bool.{true, false}
use mathlib.Core.List.{List}
use Prim.Native.Nat.{ℕ, ◌<◌}
use borrow.Author.Tests.{ltb-true, lt-ltb}
use lib.Dec.{leb}
use Rattle.transducer.specs.Transition.{at}
use Rattle.transducer.specs.Reversal.{reversed_of}
use Rattle.transducer.specs.declared.Transducer.{Transducer}
use Rattle.transducer.proofs.ReversalLaws.{reversed_at, reversed_valid}
use Rattle.transducer.proofs.Bools.{all_at, all_of}
use Rattle.product.specs.Machine.{ImageOf}
use Rattle.product.specs.Numbers.{pair_of}
use Rattle.product.specs.Confined.{Allowed}
use Rattle.product.proofs.LabelLaws.{pair_first, pair_second, pair_again}
use Rattle.joints.specs.Joint.{one_code_of, Reached, Finishes}
use Rattle.joints.specs.Found.{PairsFound}
use Rattle.joints.specs.Search.{Searched}
use Rattle.joints.proofs.JointLaws.{Joint, reached_after, reached_states, turned_joint, finishes_reached}
use Rattle.joints.proofs.StepLaws.{Coupled}
use Rattle.joints.proofs.SearchLaws.{reached_low, found_reached, covers}

-- a turned transition writes as many codes
one_code_turned : (t : Transducer) → one_code_of t ≡ true → one_code_of (reversed_of t) ≡ true
unfolding one_code_of reversed_of
one_code_turned t one =
    all_of t.count (λ l. leb (at (reversed_of t) l).count 1)
    (λ l h. rw (reversed_at t l) (all_at t.count (λ l. leb (at t l).count 1) one l h))

-- the reversed transducers are in series, with their machines
coupled_turned : {first second : Transducer} {left right back_left back_right : List ℕ} → Coupled first second left right
    → ImageOf (reversed_of first) true back_left → ImageOf (reversed_of second) false back_right
    → Coupled (reversed_of first) (reversed_of second) back_left back_right
coupled_turned c i i' =
    record {
      valid = reversed_valid _ c.valid;
      valid' = reversed_valid _ c.valid';
      one_code = one_code_turned _ c.one_code;
      image = i;
      image' = i';
    }

module _ {first second : Transducer} {left right back_left back_right all reached joined : List ℕ} (c : Coupled first second left right)
    (i : ImageOf (reversed_of first) true back_left) (i' : ImageOf (reversed_of second) false back_right)
    (every : (p q : ℕ) → p < first.states → q < second.states → Allowed all (pair_of p q))
    (x : Searched first.starts second.starts all left right reached)
    (y : Searched (reversed_of first).starts (reversed_of second).starts reached back_left back_right joined)
  where
    turned : Coupled (reversed_of first) (reversed_of second) back_left back_right
    turned = coupled_turned c i i'

    -- a pair that is reached is allowed
    reached_allowed : {p q : ℕ} → Reached first second p q → Allowed all (pair_of p q)
    reached_allowed {p} {q} r = let s = reached_states c.valid c.valid' r in every p q s.0 s.1

    -- the first search finds each pair that is reached
    reached_found : {p q : ℕ} → Reached first second p q → Allowed reached (pair_of p q)
    reached_found r = covers c x (λ p q p' q' a b j r k. reached_allowed r) r (reached_allowed r)

    -- the second finds each of these that finishes
    finishes_found : {p q : ℕ} → Finishes first second p q → Reached first second p q → Allowed joined (pair_of p q)
    finishes_found f r = covers turned y closed (finishes_reached.0 f) (reached_found r)
      where
        closed : (p q p' q' a b : ℕ) → Joint (reversed_of first) (reversed_of second) p q p' q' a b → Reached (reversed_of first) (reversed_of second) p q
            → Allowed reached (pair_of p' q') → Allowed reached (pair_of p q)
        closed p q p' q' a b j r k =
            let low = reached_low turned (reached_after a b j r) in
            let r' = rw (pair_first p' q' low, pair_second p' q' low) at (found_reached c x (pair_of p' q') k).0 in
            reached_found (reached_after a b (turned_joint j) r')

    -- together exactly the joined pairs
    pub pairs_found : PairsFound first second joined
    pairs_found =
        record {
          long = y.long;
          exactly = λ v. (
            λ h.
                let f = found_reached turned y v (ltb-true _ _ h) in
                record { reached = (found_reached c x v f.1).0; finishes = finishes_reached.1 f.0 },
            λ h. lt-ltb _ _ (subst (Allowed joined) (pair_again v) (finishes_found h.finishes h.reached)),
          );
        }
