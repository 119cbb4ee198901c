-- Joins of transducers that are alike are alike: what stands in others has the same joint steps there, so the joined pairs are the same, and each
-- line of the one result stands in the other; and they are refused alike, but for 17. Assumes nothing.
use mathlib.Core.Path.{◌≡◌, refl, sym, ap, ◌∙◌}
use mathlib.Core.Bool.{Bool, true, false, cond, ◌&&◌}
use mathlib.Core.List.Memᴰ
use mathlib.Core.List.{◌++◌, map}
use Prim.Native.Nat.{ℕ, suc, ◌-◌}
use borrow.Author.Tests.{le-leb}
use lib.Dec.{eqb, leb}
use Rattle.std.specs.Prelude.{Result}
use lib.ListN.{length, replicate}
use Rattle.transducer.specs.Limits.{most_states, most_transitions}
use Rattle.transducer.specs.Refusals.{more_than_one_code, many_pairs, many_transitions}
use Rattle.transducer.specs.StateSet.{has}
use Rattle.transducer.specs.Transition.{at}
use Rattle.transducer.specs.Blank.{blank_transducer}
use Rattle.transducer.specs.Lines.{transducer_of, AllAmong}
use Rattle.transducer.specs.Walks.{Edge}
use Rattle.transducer.specs.Alike.{Alike}
use Rattle.transducer.specs.declared.StateSet.{StateSet}
use Rattle.transducer.specs.declared.Transducer.{Transducer}
use Rattle.transducer.specs.declared.refusals.Refusal.{Refusal}
use Rattle.transducer.proofs.Bools.{same_flag, and_both, all_of}
use Rattle.transducer.proofs.LineLaws.{at_among, among_numbered}
use Rattle.transducer.proofs.WithinLaws.{Within}
use Rattle.transducer.proofs.AlikeLaws.{alike_self, alike_sym, alike_within}
use Rattle.product.specs.Numbers.{pair_of, first_of, second_of}
use Rattle.joints.specs.Joint.{one_code_of, JointPath, JoinedPair}
use Rattle.joints.proofs.StepLaws.{at_most_one}
use Rattle.joints.proofs.JointLaws.{Joint, together, first_alone, second_alone, joint_kind, joint_after, path_before}
use Rattle.series.specs.Result.{state_of, pairs, both_in_of, taken, step_line_of, lines, pair_transducer, result_of}
use Rattle.series.specs.Join.{size_refusal, refusal_of, joinable, JoinedOf}
use Rattle.series.specs.Composition.{AlikeJoins, SameUnlessMany, AlikeNumbers}
use Rattle.series.proofs.ResultLaws.{line_step, step_line, pair_lines}
use Rattle.series.proofs.SeriesLaws.{taken_result, same_joined}

-- ---- what stands in others

-- a transition from p to p', in another transducer
record Other (t t' : Transducer) (l p p' : ℕ) : Type 0 where
  l' : ℕ
  edge : Edge t' l' p p'
  same : at t l ≡ at t' l'

other : {t t' : Transducer} {l p p' : ℕ} → Within t t' → Edge t l p p' → Other t t' l p p'
other {t} {t'} {l} h x =
    let n = among_numbered t' (h.transitions (at t l) (at_among t l x.used)) in
    record {
      l' = n.number;
      edge = record { used = n.below; source = ap (λ v. v.from) n.same ∙ x.source; target = ap (λ v. v.to) n.same ∙ x.target };
      same = sym n.same;
    }

module _ {first first' second second' : Transducer} (h : Within first first') (h' : Within second second') where
  -- the same step of the others: their sides take the same
  record Copied (p q p' q' a b : ℕ) : Type 0 where
    a' : ℕ
    b' : ℕ
    joint : Joint first' second' p q p' q' a' b'
    one : taken first a ≡ taken first' a'
    two : taken second b ≡ taken second' b'

  step_copied : {p q p' q' a b : ℕ} → Joint first second p q p' q' a b → Copied p q p' q' a b
  step_copied (first_alone x d e) =
      let o = other h x in
      record { a' = suc o.l'; b' = 0; joint = first_alone o.edge d (rw o.same at e); one = o.same; two = refl }
  step_copied (second_alone d y e) =
      let o = other h' y in
      record { a' = 0; b' = suc o.l'; joint = second_alone d o.edge (rw o.same at e); one = refl; two = o.same }
  step_copied (together x y e c) =
      let o = other h x in
      let o' = other h' y in
      record {
        a' = suc o.l';
        b' = suc o'.l';
        joint = together o.edge o'.edge (rw o.same at e) (rw (o.same, o'.same) at c);
        one = o.same;
        two = o'.same;
      }

  -- joint paths are joint paths of the others
  path_copied : {p q p' q' : ℕ} → JointPath first second p q p' q' → JointPath first' second' p q p' q'
  path_copied (JointPath.here e d) = JointPath.here e d
  path_copied (JointPath.step a b t k) =
      let s = step_copied (joint_kind _ _ a b t) in path_before s.a' s.b' s.joint (path_copied k)

  -- a joined pair is one of the others
  pair_copied : {p q : ℕ} → JoinedPair first second p q → JoinedPair first' second' p q
  pair_copied j =
      let r = j.reached in
      let f = j.finishes in
      record {
        reached =
            record { s = r.s; s' = r.s'; starts = h.starts _ r.starts; starts' = h'.starts _ r.starts'; comes = path_copied r.comes };
        finishes = record { f = f.f; f' = f.f'; goes = path_copied f.goes; ends = h.finals _ f.ends; ends' = h'.finals _ f.ends' };
      }

  -- and each line of the result is one of the others' result
  lines_copied : (joined : ℕ → Bool) → AllAmong (lines first second joined) (lines first' second' joined)
  lines_copied joined w m =
      let s = line_step first second joined m in
      let c = step_copied s.steps.joint in
      let to = joint_after c.joint in
      let same : step_line_of first second joined s.v s.a s.b ≡ step_line_of first' second' joined s.v c.a' c.b' =
      λ i. record {
        from = state_of joined s.v;
        to = state_of joined (pair_of (sym to.0 i) (sym to.1 i));
        input = (c.one i).input;
        count = (c.two i).count;
        output = (c.two i).output;
      } in
      Memᴰ.cast (s.is ∙ same)
      (step_line first' second' joined s.v c.a' c.b' s.low
      (record { from_joined = s.steps.from_joined; joint = rw (to.0, to.1) c.joint; to_joined = rw (to.0, to.1) s.steps.to_joined }))

-- ---- alike joins

module _ (joined : ℕ → Bool) where
  -- the states in two sets, by what these hold
  both_same : (s s' u u' : StateSet) → ((q : ℕ) → has s q ≡ has u q) → ((q : ℕ) → has s' q ≡ has u' q) → both_in_of joined s s' ≡ both_in_of joined u u'
  unfolding both_in_of
  both_same s s' u u' e d =
      λ i. record { member = map (λ v. e (first_of v) i && d (second_of v) i) (pairs joined) ++ replicate (most_states - length (pairs joined)) false }

  module _ {first first' second second' : Transducer} (h : Alike first first') (k : Alike second second') where
    -- the transducers of the same pairs, and so the results
    pairs_alike : Alike (pair_transducer first second joined) (pair_transducer first' second' joined)
    unfolding pair_transducer transducer_of
    pairs_alike =
        record {
          states = refl;
          starts = λ q. ap (λ s. has s q) (both_same _ _ _ _ h.starts k.starts);
          finals = λ q. ap (λ s. has s q) (both_same _ _ _ _ h.finals k.finals);
          there = λ w m. rw (pair_lines first' second' joined)
              (lines_copied (alike_within h) (alike_within k) joined w (rw (pair_lines first second joined) at m));
          back = λ w m. rw (pair_lines first second joined)
              (lines_copied (alike_within (alike_sym h)) (alike_within (alike_sym k)) joined w (rw (pair_lines first' second' joined) at m));
        }

    results_alike : Alike (result_of first second joined) (result_of first' second' joined)
    unfolding result_of
    results_alike = go (eqb (length (pairs joined)) 0)
      where
        go : (b : Bool)
            → Alike (cond b blank_transducer (pair_transducer first second joined)) (cond b blank_transducer (pair_transducer first' second' joined))
        go true = alike_self blank_transducer
        go false = pairs_alike

-- the pairs are the same
module _ {first first' second second' : Transducer} (a : Alike first first') (a' : Alike second second') where
  same_pairs : {r r' : Result Transducer Refusal} (h : JoinedOf first second r) (k : JoinedOf first' second' r') → joinable first second ≡ true
      → joinable first' second' ≡ true → k.joined ≡ h.joined
  same_pairs h k j j' =
      same_joined k.joined h.joined (k.exactly j') (h.exactly j)
      (λ v. pair_copied (alike_within (alike_sym a)) (alike_within (alike_sym a')))
      (λ v. pair_copied (alike_within a) (alike_within a'))

pub alike_joins : AlikeJoins
alike_joins first first' second second' r r' a a' h k e e' =
    let t = taken_result h e in
    let t' = taken_result k e' in
    rw (t.1, t'.1, same_pairs a a' h k t.0.joins t'.0.joins) (results_alike h.joined a a')

-- ---- refusals

-- a transducer within one whose lines write at most one code is such a one
one_code_within : {t t' : Transducer} → Within t t' → one_code_of t' ≡ true → one_code_of t ≡ true
unfolding one_code_of
one_code_within {t} {t'} h one =
    all_of t.count (λ l. leb (at t l).count 1)
    (λ l below. let n = among_numbered t' (h.transitions (at t l) (at_among t l below)) in
    rw n.same at (le-leb (at t' n.number).count 1 (at_most_one t' one n.number n.below)))

-- of the same pairs, 16 comes of both or of neither
sizes_alike : (first first' second second' : Transducer) (joined : ℕ → Bool)
    → SameUnlessMany (size_refusal first second joined) (size_refusal first' second' joined)
unfolding size_refusal
sizes_alike first first' second second' joined =
    go (leb (length (pairs joined)) most_states) (leb (length (lines first second joined)) most_transitions)
    (leb (length (lines first' second' joined)) most_transitions)
  where
    go : (p x y : Bool) → SameUnlessMany (cond p (cond x 0 many_transitions) many_pairs) (cond p (cond y 0 many_transitions) many_pairs)
    go false x y = SameUnlessMany.same refl
    go true true true = SameUnlessMany.same refl
    go true false false = SameUnlessMany.same refl
    go true true false = SameUnlessMany.second_many refl refl
    go true false true = SameUnlessMany.first_many refl refl

pub alike_numbers : AlikeNumbers
unfolding refusal_of joinable
alike_numbers first first' second second' r r' a a' f f' s s' h k = rw (h.number, k.number, f, f', s, s', sym codes) (go (one_code_of first) refl)
  where
    codes : one_code_of first ≡ one_code_of first'
    codes = same_flag (one_code_of first) (one_code_of first') (one_code_within (alike_within (alike_sym a))) (one_code_within (alike_within a))

    go : (b : Bool) → one_code_of first ≡ b
        → SameUnlessMany (cond b (size_refusal first second h.joined) more_than_one_code) (cond b (size_refusal first' second' k.joined) more_than_one_code)
    go false e = SameUnlessMany.same refl
    go true e =
        rw (same_pairs a a' h k (and_both (and_both f s) e) (and_both (and_both f' s') (sym codes ∙ e)))
        (sizes_alike first first' second second' h.joined)
