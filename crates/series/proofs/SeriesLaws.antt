-- What holds of every answer of `join`, and that its contract determines the answer. Assumes nothing.
use mathlib.Core.Path.{◌≡◌, refl, sym, ap, ◌∙◌}
use mathlib.Core.Bool.{Bool, true, false, cond}
use mathlib.Core.Logic.{◌↔◌, inl, inr}
use Prim.Native.Nat.{ℕ, ◌≤◌}
use native.Mathlib.Omega.{arith}
use borrow.Author.Tests.{eqb-true, eqb-false, eq-eqb}
use lib.Dec.{eqb}
use Rattle.std.specs.Prelude.{Result}
use lib.ListN.{length}
use Rattle.transducer.specs.Refusals.{number_of}
use Rattle.transducer.specs.Transition.{InputWord, OutputWord}
use Rattle.transducer.specs.Blank.{blank_transducer}
use Rattle.transducer.specs.Valid.{Shaped}
use Rattle.transducer.specs.Accepted.{accepted_of}
use Rattle.transducer.specs.Lines.{transducer_of}
use Rattle.transducer.specs.Paths.{Relates, Functional}
use Rattle.transducer.specs.declared.Transducer.{Transducer}
use Rattle.transducer.specs.declared.refusals.Refusal.{Refusal}
use Rattle.transducer.proofs.Bools.{same_flag}
use Rattle.transducer.proofs.RefusalLaws.{same_answer}
use Rattle.transducer.proofs.BlankLaws.{blank_relates, blank_accepted, blank_shaped}
use Rattle.product.specs.Numbers.{first_of, second_of}
use Rattle.joints.specs.Joint.{JoinedPair}
use Rattle.series.specs.Result.{pairs, pair_transducer, result_of}
use Rattle.series.specs.Join.{refusal_of, joinable, joined_of, JoinedOf}
use Rattle.series.specs.Composition.{Composes, NoneInVain, InSeries}
use Rattle.series.proofs.ResultLaws.{set_below}
use Rattle.series.proofs.RuleLaws.{pairs_accepted, pairs_shaped}
use Rattle.series.proofs.RefusalLaws.{Taken, not_refused, refused_anyway}
use Rattle.series.proofs.Composition.{related_composes, composes_related, pair_useful}

-- ---- the result

module _ (first second : Transducer) (joined : ℕ → Bool) where
  -- what holds of the blank transducer where there is no joined pair, and else of the transducer of pairs, holds of the result
  result_either : (P : Transducer → Type 0) → (length (pairs joined) ≡ 0 → P blank_transducer)
      → (1 ≤ length (pairs joined) → P (pair_transducer first second joined)) → P (result_of first second joined)
  unfolding result_of
  result_either P none some = go (eqb (length (pairs joined)) 0) refl
    where
      go : (b : Bool) → eqb (length (pairs joined)) 0 ≡ b → P (cond b blank_transducer (pair_transducer first second joined))
      go true e = none (eqb-true _ _ e)
      go false e = let z = eqb-false (length (pairs joined)) 0 e in some (omega arith)

  module _ (t : Taken first second joined) where
    -- it is accepted
    result_accepted : accepted_of (result_of first second joined) ≡ true
    result_accepted =
        result_either (λ r. accepted_of r ≡ true) (λ _. blank_accepted)
        (pairs_accepted first second joined t.few_pairs t.few_lines t.valid' t.valid)

    -- and its arrays have their lengths
    result_shaped : Shaped second → Shaped (result_of first second joined)
    result_shaped s =
        result_either Shaped (λ _. blank_shaped) (λ _. pairs_shaped first second joined t.few_pairs t.few_lines t.valid' s)

    -- its relation is the composition
    result_composes : ((v : ℕ) → (joined v ≡ true) ↔ JoinedPair first second (first_of v) (second_of v)) → (x : InputWord) (z : OutputWord)
        → Relates (result_of first second joined) x z ↔ Composes first second x z
    unfolding pair_transducer transducer_of
    result_composes exactly x z =
        result_either (λ r. Relates r x z ↔ Composes first second x z)
        (λ e. (λ r. absurd (blank_relates r), λ c. let h = set_below joined _ _ _ (back c).accepting.starts in absurd (omega arith)))
        (λ _. (related_composes first second joined t.valid t.valid', back))
      where
        back : Composes first second x z → Relates (pair_transducer first second joined) x z
        back = composes_related first second joined t.valid t.valid' exactly t.few_pairs t.one

-- ---- every answer

module _ {first second : Transducer} {r : Result Transducer Refusal} (h : JoinedOf first second r) where
  -- where nothing is refused it is the result
  pub taken_result : number_of r ≡ 0 → Taken first second h.joined × (joined_of r ≡ result_of first second h.joined)
  taken_result e =
      let none : refusal_of first second h.joined ≡ 0 = sym h.number ∙ e in
      (not_refused first second h.joined none, h.table ∙ rw (eq-eqb (refusal_of first second h.joined) 0 none))

  -- else it is blank
  answered : (P : Transducer → Type 0) → P blank_transducer → (Taken first second h.joined → P (result_of first second h.joined)) → P (joined_of r)
  answered P refused made = rw h.table (go (eqb (refusal_of first second h.joined) 0) refl)
    where
      go : (b : Bool) → eqb (refusal_of first second h.joined) 0 ≡ b → P (cond b (result_of first second h.joined) blank_transducer)
      go true e = made (not_refused first second h.joined (eqb-true _ _ e))
      go false e = refused

  -- it has no state in vain
  joined_useful : NoneInVain (joined_of r)
  unfolding pair_transducer transducer_of
  joined_useful =
      answered NoneInVain (inl refl)
      (λ t. result_either first second h.joined NoneInVain (λ _. inl refl)
      (λ _. inr (pair_useful first second h.joined t.valid t.valid' (h.exactly t.joins) t.few_pairs)))

  -- it composes, keeps what is functional, is accepted, and has no state in vain
  pub in_series : InSeries first second r
  in_series =
      record {
        composition = λ e x z. let t = taken_result e in
            rw t.1 (result_composes first second h.joined t.0 (h.exactly t.0.joins) x z);
        functional = λ f g. answered Functional (λ x y z a b. absurd (blank_relates a))
            (λ t x y z a b.
            let c = result_composes first second h.joined t (h.exactly t.joins) x in
            composed_functional f g ((c y).0 a) ((c z).0 b));
        accepted = answered (λ t. accepted_of t ≡ true) blank_accepted (result_accepted first second h.joined);
        useful = joined_useful;
      }
    where
      -- the composition of two functional relations is one
      composed_functional : Functional first → Functional second → {x : InputWord} {y z : OutputWord}
          → Composes first second x y → Composes first second x z → y ≡ z
      composed_functional f g c d = g _ _ _ c.other (rw (f _ _ _ d.one c.one) at d.other)

  -- its arrays have their lengths
  pub joined_shaped : Shaped second → Shaped (joined_of r)
  joined_shaped s = answered Shaped blank_shaped (λ t. result_shaped first second h.joined t s)

-- ---- the contract determines the answer

-- the sets of joined pairs are the same where the joined pairs are
pub same_joined : (j k : ℕ → Bool) {P Q : ℕ → Type 0} → ((v : ℕ) → (j v ≡ true) ↔ P v) → ((v : ℕ) → (k v ≡ true) ↔ Q v)
    → ((v : ℕ) → P v → Q v) → ((v : ℕ) → Q v → P v) → j ≡ k
same_joined j k p q there back =
    λ i v. same_flag (j v) (k v) (λ m. (q v).1 (there v ((p v).0 m))) (λ m. (p v).1 (back v ((q v).0 m))) i

-- any two answers that meet the contract for the same two transducers are the same
pub joined_determined : {first second : Transducer} {r r' : Result Transducer Refusal} → JoinedOf first second r → JoinedOf first second r' → r ≡ r'
joined_determined {first} {second} {r} {r'} h k = go (joinable first second) refl
  where
    make : refusal_of first second h.joined ≡ refusal_of first second k.joined → joined_of r ≡ joined_of r' → r ≡ r'
    make e t = same_answer r r' (h.number ∙ e ∙ sym k.number) (λ a b p q. rw (p, q) at t)

    go : (b : Bool) → joinable first second ≡ b → r ≡ r'
    go true e =
        let same : h.joined ≡ k.joined = same_joined h.joined k.joined (h.exactly e) (k.exactly e) (λ v m. m) (λ v m. m) in
        make (ap (refusal_of first second) same)
        (h.table ∙ ap (λ (j : ℕ → Bool). cond (eqb (refusal_of first second j) 0) (result_of first second j) blank_transducer) same ∙ sym k.table)
    go false e =
        let a = refused_anyway first second h.joined k.joined e in
        let b = refused_anyway first second k.joined h.joined e in
        make a.0 (h.table ∙ rw (a.1, b.1) refl ∙ sym k.table)
