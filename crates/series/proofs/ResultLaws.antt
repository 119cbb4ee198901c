-- The transducer of pairs: its lines are the joint steps between joined pairs, and its sets are the pairs of the two sets. Assumes nothing.
use mathlib.Core.Path.{◌≡◌, ◌∙◌}
use mathlib.Core.Bool.{Bool, true, false, ◌&&◌}
use mathlib.Core.List.{map}
use Prim.Native.Nat.{ℕ, suc, ◌-◌, ◌≤◌, ◌<◌}
use native.Mathlib.Omega.{arith}
use borrow.Author.Tests.{lt-ltb}
use lib.Dec.{ltb}
use lib.ListN.{length, replicate, length-append, length-map, length-replicate}
use Rattle.transducer.specs.Limits.{most_states}
use Rattle.transducer.specs.StateSet.{has, In}
use Rattle.transducer.specs.Valid.{Valid}
use Rattle.transducer.specs.Lines.{lines_of, Among}
use Rattle.transducer.specs.declared.StateSet.{StateSet}
use Rattle.transducer.specs.declared.Transition.{Transition}
use Rattle.transducer.specs.declared.Transducer.{Transducer}
use Rattle.transducer.proofs.Bools.{and_left, and_right, and_both}
use Rattle.transducer.proofs.Facts.{in_below}
use Rattle.transducer.proofs.StateSetLaws.{Long}
use Rattle.transducer.proofs.LineLaws.{made_lines}
use Rattle.product.specs.Numbers.{most_pairs, pair_of, first_of, second_of, PairIn}
use Rattle.product.proofs.LabelLaws.{pair_first, pair_second}
use Rattle.joints.specs.Joint.{after, joint_step}
use Rattle.joints.proofs.JointLaws.{side_low, side_below, Joint, joint_kind, kind_joint, joint_sides}
use Rattle.series.specs.Result.{state_of, pairs, both_have, both_in_of, entered, leads, step_line_of, row_lines, lines, pair_transducer}
use Rattle.series.proofs.GatherLaws.{gather_of, gather_at, picked_of, picked_at, flag_at, flag_of_lem}
use Rattle.series.proofs.StateLaws.{PairAt, state_less, pair_listed, pair_at}

-- ---- the lines

module _ (first second : Transducer) (joined : ℕ → Bool) where
  -- the step a, b leads from the joined pair v to a joined pair
  pub record Leads (v a b : ℕ) : Type 0 where
    pub from_joined : joined v ≡ true
    pub joint : Joint first second (first_of v) (second_of v) (after first (first_of v) a) (after second (second_of v) b) a b
    pub to_joined : joined (entered first second v a b) ≡ true

  -- what its test says
  leads_facts : (v a b : ℕ) → leads first second joined v a b ≡ true → Leads v a b
  unfolding leads
  leads_facts v a b e =
      let test = joint_step first second (first_of v) (second_of v) a b in
      let h = and_left (joined v && test) (joined (entered first second v a b)) e in
      record {
        from_joined = and_left (joined v) test h;
        joint = joint_kind _ _ a b (and_right (joined v) test h);
        to_joined = and_right (joined v && test) (joined (entered first second v a b)) e;
      }

  facts_leads : (v a b : ℕ) → Leads v a b → leads first second joined v a b ≡ true
  unfolding leads
  facts_leads v a b h = and_both (and_both h.from_joined (kind_joint h.joint)) h.to_joined

  -- the two states of the pair that it enters
  pub leads_states : (v a b : ℕ) → Valid second → Leads v a b
      → (first_of (entered first second v a b) ≡ after first (first_of v) a) × (second_of (entered first second v a b) ≡ after second (second_of v) b)
  leads_states v a b valid h =
      let low = side_below valid valid.few_states (joint_sides h.joint).1 (omega arith) in
      (pair_first (after first (first_of v) a) _ low, pair_second (after first (first_of v) a) _ low)

  -- the step that became the line w
  pub record StepOf (w : Transition) : Type 0 where
    pub v : ℕ
    pub a : ℕ
    pub b : ℕ
    pub low : v < most_pairs
    pub steps : Leads v a b
    pub is : w ≡ step_line_of first second joined v a b

  -- each line is a step's
  pub line_step : {w : Transition} → Among w (lines first second joined) → StepOf w
  unfolding lines row_lines
  line_step m =
      let g = gather_at most_pairs _ m in
      let g₁ = gather_at (suc first.count) _ g.stands in
      let g₂ = gather_at (suc second.count) _ g₁.stands in
      let k = picked_at (leads first second joined g.i g₁.i g₂.i) g₂.stands in
      record { v = g.i; a = g₁.i; b = g₂.i; low = g.low; steps = leads_facts _ _ _ k.0; is = k.1 }

  -- and each step has a line
  pub step_line : (v a b : ℕ) → v < most_pairs → Leads v a b → Among (step_line_of first second joined v a b) (lines first second joined)
  unfolding lines row_lines
  step_line v a b low h =
      let sides = joint_sides h.joint in
      gather_of most_pairs _ low
      (gather_of (suc first.count) _ (side_low sides.0)
      (gather_of (suc second.count) _ (side_low sides.1) (picked_of (facts_leads v a b h))))

  -- these are the lines of the transducer of pairs
  pub pair_lines : lines_of (pair_transducer first second joined) ≡ lines first second joined
  unfolding pair_transducer
  pair_lines = made_lines _ _ _ (lines first second joined)

-- ---- the sets

module _ (joined : ℕ → Bool) (s s' : StateSet) where
  -- the state i is a joined pair's, whose two states are in s and s'
  pub record StateIn (i : ℕ) : Type 0 where
    pub at_state : PairAt joined most_pairs i
    pub inside : PairIn s s' at_state.pair

  -- each state of the set is such a pair's
  pub set_at : (i : ℕ) → In (both_in_of joined s s') i → StateIn i
  unfolding both_in_of has
  set_at i e =
      let f = flag_at (pairs joined) (both_have s s') (most_states - length (pairs joined)) i (and_right (ltb i most_states) _ e) in
      let p = pair_at joined most_pairs i f.0 in
      let t : both_have s s' p.pair ≡ true = rw p.listed at f.1 in
      record {
        at_state = p;
        inside = record { first = and_left (has s (first_of p.pair)) _ t; second = and_right (has s (first_of p.pair)) _ t };
      }

  -- and each such pair becomes a state of the set
  pub set_of_lem : (p q : ℕ) → length (pairs joined) ≤ most_states → joined (pair_of p q) ≡ true → In s p → In s' q
      → In (both_in_of joined s s') (state_of joined (pair_of p q))
  unfolding both_in_of has
  set_of_lem p q few e h k =
      let p-low = in_below s p h in
      let q-low = in_below s' q k in
      let low : pair_of p q < most_pairs = omega arith in
      let less = state_less joined (pair_of p q) most_pairs e low in
      and_both (lt-ltb (state_of joined (pair_of p q)) most_states (omega arith))
      (flag_of_lem (pairs joined) (both_have s s') (most_states - length (pairs joined)) (state_of joined (pair_of p q)) less
      ∙ rw (pair_listed joined most_pairs (pair_of p q) e low, pair_first p q q-low, pair_second p q q-low) (and_both h k))

  -- only states are in it
  pub set_below : (i : ℕ) → In (both_in_of joined s s') i → i < length (pairs joined)
  set_below i e = let p = (set_at i e).at_state in omega (arith, p.state, state_less joined p.pair most_pairs p.holds p.low)

  -- and it has a flag for each state
  pub set_long : length (pairs joined) ≤ most_states → Long (both_in_of joined s s')
  unfolding both_in_of
  set_long few =
      let m = most_states - length (pairs joined) in
      length-append (map (both_have s s') (pairs joined)) (replicate m false)
      ∙ omega (arith, length-map (pairs joined) (both_have s s'), length-replicate m false)
