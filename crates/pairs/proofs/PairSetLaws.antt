-- Laws of sets of pairs and of the answer `UsefulPairsOf`: what a search that has found exactly the useful pairs answers; that the contract
-- determines the answer; that there are at most `most_pairs` useful pairs. Assumes nothing.
use mathlib.Core.Path.{◌≡◌, refl, sym, ap, ◌∙◌}
use mathlib.Core.Bool.{Bool, true, false, ◌&&◌}
use mathlib.Core.List.{List, [], ◌∷◌}
use Prim.Native.Nat.{ℕ, zero, suc, ◌+◌, ◌≤◌, ◌<◌}
use native.Mathlib.Omega.{arith}
use borrow.Author.Tests.{lt-ltb, ltb-true}
use lib.Dec.{ltb}
use lib.ListN.{length, get_or, replicate, length-map, length-replicate, get_or-map}
use lib.Seq.{ext_get_or}
use Rattle.std.specs.Prelude.{Result, Ok, Err}
use Rattle.worklist.specs.Lists.{Worklist, zeros}
use Rattle.transducer.specs.Limits.{most_states}
use Rattle.transducer.specs.Accepted.{accepted_of}
use Rattle.transducer.specs.declared.refusals.Refusal.{Refusal}
use Rattle.transducer.specs.declared.StateSet.{StateSet}
use Rattle.transducer.specs.declared.Transducer.{Transducer}
use Rattle.transducer.proofs.Bools.{and_left, and_right, same_flag}
use Rattle.transducer.proofs.AcceptedLaws.{accepted_valid}
use Rattle.transducer.proofs.RefusalLaws.{same_answer}
use Rattle.product.specs.Numbers.{most_pairs, pair_of, first_of, second_of}
use Rattle.pairs.specs.UsefulPairs.{has_pair, no_pairs_of, pair_set_of, count_true, found_of, UsefulPairsOf}
use Rattle.pairs.specs.Ways.{Tree}
use Rattle.pairs.specs.declared.PairSet.{PairSet}
use Rattle.pairs.specs.declared.UsefulPairs.{UsefulPairs}
use Rattle.product.proofs.LabelLaws.{pair_first, pair_second, pair_again}
use Rattle.pairs.proofs.TreeLaws.{useful_low}

-- ---- what a set holds

-- below `most_states` the flag decides
pub has_pair_lem : (s : PairSet) (p q : ℕ) → p < most_states → q < most_states → has_pair s p q ≡ get_or s.member (pair_of p q) false
unfolding has_pair
has_pair_lem s p q h k = rw (lt-ltb p most_states h, lt-ltb q most_states k)

-- a pair of a set has states below `most_states`
pub pair_low : (s : PairSet) (p q : ℕ) → has_pair s p q ≡ true → (p < most_states) × (q < most_states)
unfolding has_pair
pair_low s p q h =
    let front = and_left (ltb p most_states && ltb q most_states) (get_or s.member (pair_of p q) false) h in
    (ltb-true _ _ (and_left (ltb p most_states) (ltb q most_states) front), ltb-true _ _ (and_right (ltb p most_states) (ltb q most_states) front))

-- a pair is in the set of a list exactly where its number there is not 0
pub pairs_of : (l : List ℕ) (v : ℕ) → get_or (pair_set_of l).member v false ≡ ltb 0 (get_or l v 0)
unfolding pair_set_of
pairs_of l v = get_or-map (ltb 0) l v 0

-- each number of a list is 0, or counted
count_zeros : (l : List ℕ) → zeros l + count_true (pair_set_of l).member ≡ length l
unfolding zeros count_true pair_set_of
count_zeros [] = refl
count_zeros (zero ∷ l) = omega (arith, count_zeros l)
count_zeros (suc x ∷ l) = rw (lt-ltb 0 (suc x) (omega arith)) (omega (arith, count_zeros l))

-- no pair is none, and there are no more than flags
pub count_none : (n : ℕ) → count_true (replicate n false) ≡ 0
unfolding count_true
count_none zero = refl
count_none (suc n) = count_none n

count_most : (l : List Bool) → count_true l ≤ length l
unfolding count_true
count_most [] = omega arith
count_most (true ∷ l) = omega (arith, count_most l)
count_most (false ∷ l) = omega (arith, count_most l)

-- the flag at v tells whether the pair with the number v is in the set
pub pair_flag : (s : PairSet) (v : ℕ) → v < most_pairs → get_or s.member v false ≡ has_pair s (first_of v) (second_of v)
pair_flag s v h =
    ap (λ i. get_or s.member i false) (sym (pair_again v)) ∙ sym (has_pair_lem s (first_of v) (second_of v) (omega arith) (omega arith))

-- two sets that hold the same are the same
pub same_pairs : (s r : PairSet) → length s.member ≡ most_pairs → length r.member ≡ most_pairs
    → ((p q : ℕ) → has_pair s p q ≡ has_pair r p q) → s ≡ r
same_pairs s r l k e =
    ap (λ (m : List Bool). let z : PairSet = record { member = m } in z)
    (ext_get_or false s.member r.member (l ∙ sym k) (λ v h. pair_flag s v (omega (arith, l)) ∙ e (first_of v) (second_of v) ∙ sym (pair_flag r v (omega (arith, l)))))

-- ---- the answer

-- nothing keeps the rules and breaks one
pub not_valid : {A : Type 0} {b : Bool} → b ≡ true → b ≡ false → A
not_valid p q = let z : ◌≡◌ {A = ℕ} 0 1 = cc in absurd (omega arith)

-- the answer of a search that has found exactly the useful pairs
pub answer : {t : Transducer} {ends : StateSet} {Leads : ℕ → ℕ → ℕ → Type 0} {s : Worklist} → accepted_of t ≡ true → Tree t ends Leads s
    → UsefulPairsOf t (Ok (record { set = pair_set_of s.rank; count = s.count }))
unfolding pair_set_of
answer {t} {s = s} accepted tree =
    record {
      number = rw accepted;
      members = λ _ p q. (
        λ h. let low = pair_low (pair_set_of s.rank) p q h in
            rw (pair_first p q low.1, pair_second p q low.1) at
            ((tree.found (pair_of p q)).0
            (ltb-true _ _ (sym (pairs_of s.rank (pair_of p q)) ∙ sym (has_pair_lem (pair_set_of s.rank) p q low.0 low.1) ∙ h))),
        λ u. let low = useful_low (accepted_valid t accepted) u in
            has_pair_lem (pair_set_of s.rank) p q low.0 low.1 ∙ pairs_of s.rank (pair_of p q)
            ∙ lt-ltb _ _ ((tree.found (pair_of p q)).1 (rw (pair_first p q low.1, pair_second p q low.1) u)),
      );
      refused = not_valid accepted;
      counted = omega (arith, count_zeros s.rank, tree.grown.sized.room);
      long = length-map s.rank (ltb 0) ∙ tree.grown.size;
    }

-- the answer to a transducer that breaks a rule
pub refusal : {t : Transducer} → accepted_of t ≡ false → UsefulPairsOf t (Err Refusal.Invalid)
unfolding no_pairs_of
refusal invalid =
    record {
      number = rw invalid;
      members = λ valid. not_valid valid invalid;
      refused = λ _. refl;
      counted = sym (count_none most_pairs);
      long = length-replicate most_pairs false;
    }

-- the contract determines the answer
pub useful_pairs_determined : {t : Transducer} {r r' : Result UsefulPairs Refusal} → UsefulPairsOf t r → UsefulPairsOf t r' → r ≡ r'
useful_pairs_determined {t} {r} {r'} a a' =
    same_answer r r' (a.number ∙ sym a'.number) (λ x y p p'. sym (ap found_of p) ∙ found ∙ ap found_of p')
  where
    sets : (found_of r).set ≡ (found_of r').set
    sets = go (accepted_of t) refl
      where
        go : (b : Bool) → accepted_of t ≡ b → (found_of r).set ≡ (found_of r').set
        go true e =
            same_pairs (found_of r).set (found_of r').set a.long a'.long
            (λ p q. same_flag _ _ (λ h. (a'.members e p q).1 ((a.members e p q).0 h)) (λ h. (a.members e p q).1 ((a'.members e p q).0 h)))
        go false e = a.refused e ∙ sym (a'.refused e)

    found : found_of r ≡ found_of r'
    found =
        let set = sets in
        let count = a.counted ∙ ap (λ s. count_true s.member) set ∙ sym a'.counted in
        λ i. record { set = set i; count = count i }

-- there are at most `most_pairs` useful pairs
pub at_most_pairs : {t : Transducer} {r : Result UsefulPairs Refusal} → UsefulPairsOf t r → (found_of r).count ≤ most_pairs
at_most_pairs {r = r} a = omega (arith, a.counted, count_most (found_of r).set.member, a.long)

-- a refusal comes with none
pub none_refused : {t : Transducer} {r : Result UsefulPairs Refusal} → UsefulPairsOf t r → accepted_of t ≡ false → (found_of r).count ≡ 0
unfolding no_pairs_of
none_refused a invalid = a.counted ∙ ap (λ s. count_true s.member) (a.refused invalid) ∙ count_none most_pairs
