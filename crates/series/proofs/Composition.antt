-- The relation of the transducer of pairs is the composition of the two relations: its paths are the runs through joined pairs, every run between two
-- start states and two final ones is through such pairs only, and the two sides of runs are the paths of the two. All its states are useful.
-- Assumes nothing.
use mathlib.Core.Path.{◌≡◌, refl, sym, ap, ◌∙◌}
use mathlib.Core.Bool.{Bool, true}
use mathlib.Core.List.{List, [], ◌∷◌}
use mathlib.Core.Logic.{◌↔◌}
use Prim.Native.Nat.{ℕ, ◌≤◌, ◌<◌}
use native.Mathlib.Omega.{arith}
use lib.ListN.{length}
use Rattle.transducer.specs.Limits.{most_states}
use Rattle.transducer.specs.StateSet.{In}
use Rattle.transducer.specs.Transition.{InputWord, OutputWord, at, as_inputs}
use Rattle.transducer.specs.Valid.{Valid}
use Rattle.transducer.specs.Lines.{transducer_of}
use Rattle.transducer.specs.Paths.{Path, here, step, reads, writes, Relates}
use Rattle.transducer.specs.Useful.{UsefulState}
use Rattle.transducer.specs.declared.Transducer.{Transducer}
use Rattle.transducer.proofs.PathLaws.{output_to_lem}
use Rattle.transducer.proofs.Facts.{in_below}
use Rattle.transducer.proofs.LineLaws.{at_among, among_numbered}
use Rattle.transducer.proofs.WithinLaws.{Labelled, labelled_relates}
use Rattle.product.specs.Numbers.{most_pairs, pair_of, first_of, second_of}
use Rattle.product.proofs.LabelLaws.{pair_first, pair_second, pair_again}
use Rattle.joints.specs.Joint.{Reached, Finishes, JoinedPair}
use Rattle.joints.proofs.JointLaws.{side_below, joint_sides, joint_after, start_reached, reached_after, reached_along, end_finishes, finishes_along}
use Rattle.series.specs.Result.{state_of, pairs, entered, step_line_of, pair_transducer}
use Rattle.series.specs.Composition.{Composes}
use Rattle.series.proofs.StateLaws.{state_same, pair_at}
use Rattle.series.proofs.RunLaws.{Run, stop, more, run_path, path_run, run_sides, paths_run}
use Rattle.series.proofs.ResultLaws.{Leads, leads_states, StepOf, line_step, step_line, pair_lines, set_at, set_of_lem}

module _ (first second : Transducer) (joined : ℕ → Bool) (valid : Valid first) (valid' : Valid second) where
  abbrev table : Transducer
  table = pair_transducer first second joined

  -- ---- from its paths to runs

  -- the run of a path κ from the pair v to the state j
  record RunOf (v : ℕ) (κ : List ℕ) (j : ℕ) : Type 0 where
    u : ℕ
    holds : joined u ≡ true
    state : state_of joined u ≡ j
    run : Run first second (first_of v) (second_of v) (reads table κ) (writes table κ) (first_of u) (second_of u)

  -- one line more at the front
  run_before : (v a b l : ℕ) {κ : List ℕ} {j : ℕ} → Leads first second joined v a b → at table l ≡ step_line_of first second joined v a b
      → RunOf (entered first second v a b) κ j → RunOf v (l ∷ κ) j
  run_before v a b l h is r =
      let to = leads_states first second joined v a b valid' h in
      record {
        u = r.u;
        holds = r.holds;
        state = r.state;
        run = rw is (more a b h.joint (rw (to.0, to.1) at r.run));
      }

  -- each path has its run
  run_of : {i j : ℕ} {κ : List ℕ} → Path table i κ j → (v : ℕ) → joined v ≡ true → state_of joined v ≡ i → RunOf v κ j
  run_of (here e) v h s = record { u = v; holds = h; state = s ∙ e; run = stop refl refl }
  run_of {i} {j} (step {l = l} {π = κ} low from k) v h s =
      go (line_step first second joined (rw (pair_lines first second joined) at (at_among table l low))) (run_of k)
    where
      go : StepOf first second joined (at table l) → ((u : ℕ) → joined u ≡ true → state_of joined u ≡ (at table l).to → RunOf u κ j) → RunOf v (l ∷ κ) j
      go t rest =
          let same : t.v ≡ v = state_same joined t.v v t.steps.from_joined h (sym (ap (λ w. w.from) t.is) ∙ from ∙ sym s) in
          rw same at
          (run_before t.v t.a t.b l t.steps t.is
          (rest (entered first second t.v t.a t.b) t.steps.to_joined (sym (ap (λ w. w.to) t.is))))

  -- so what it relates, the composition relates
  pub related_composes : {x : InputWord} {z : OutputWord} → Relates table x z → Composes first second x z
  unfolding pair_transducer transducer_of
  related_composes {x} {z} r =
      let a = r.accepting in
      let s = set_at joined first.starts second.starts a.first a.starts in
      let f = set_at joined first.finals second.finals a.last a.ends in
      let w = run_of a.path s.at_state.pair s.at_state.holds s.at_state.state in
      let same : f.at_state.pair ≡ w.u =
      state_same joined f.at_state.pair w.u f.at_state.holds w.holds (f.at_state.state ∙ sym w.state) in
      let sides = run_sides first second valid w.run in
      let ends = rw same at f.inside in
      rw (← r.read, ← r.written, output_to_lem table r.π a.last)
      (record {
        y = sides.y;
        one = labelled_relates s.inside.first sides.one ends.first;
        other = labelled_relates s.inside.second sides.other ends.second;
      })

  -- ---- from runs to its paths

  -- the state of the pair p, q
  abbrev state_in : ℕ → ℕ → ℕ
  state_in p q = state_of joined (pair_of p q)

  module _ (exactly : (v : ℕ) → (joined v ≡ true) ↔ JoinedPair first second (first_of v) (second_of v)) where
    -- a pair that is reached and finishes is joined
    is_joined : (p q : ℕ) → q < most_states → Reached first second p q → Finishes first second p q → joined (pair_of p q) ≡ true
    is_joined p q h r f = (exactly (pair_of p q)).1 (rw (pair_first p q h, pair_second p q h) (record { reached = r; finishes = f }))

    -- a run from a pair that is reached to one that finishes has its path
    run_labelled : {p q p' q' : ℕ} {x : InputWord} {z : OutputWord} → p < most_states → q < most_states
        → Reached first second p q → Run first second p q x z p' q' → Finishes first second p' q' → Labelled table (state_in p q) (state_in p' q') x z
    run_labelled hp hq r (stop e d) f = record { π = []; path = here (λ i. state_in (e i) (d i)); read = refl; written = refl }
    run_labelled {p} {q} {p'} {q'} hp hq r (more {p' = p₁} {q' = q₁} a b j k) f =
        let sides = joint_sides j in
        let to = joint_after j in
        let hp' = side_below valid valid.few_states sides.0 hp in
        let hq' = side_below valid' valid'.few_states sides.1 hq in
        let next = reached_after a b j r in
        let v = pair_of p q in
        let is-first = pair_first p q hq in
        let is-second = pair_second p q hq in
        let enters : entered first second v a b ≡ pair_of p₁ q₁ = rw (is-first, is-second, to.0, to.1) in
        let leads : Leads first second joined v a b =
        record {
          from_joined = is_joined p q hq r (finishes_along (run_path first second (more a b j k)) f);
          joint = rw (is-first, is-second, to.0, to.1) j;
          to_joined = rw enters (is_joined _ _ hq' next (finishes_along (run_path first second k) f));
        } in
        let n = among_numbered table (rw (← pair_lines first second joined) at (step_line first second joined v a b (omega arith) leads)) in
        let rest = run_labelled hp' hq' next k f in
        record {
          π = n.number ∷ rest.π;
          path = step {q = state_in p' q'} {π = rest.π} n.below (ap (λ w. w.from) n.same) (rw (n.same, enters) rest.path);
          read = rw (n.same, rest.read);
          written = rw (n.same, rest.written);
        }

    module _ (few : length (pairs joined) ≤ most_states) {p q : ℕ} where
      -- two start states become a start state, and two final states a final one
      pair_starts : In first.starts p → In second.starts q → Finishes first second p q → In table.starts (state_in p q)
      unfolding pair_transducer transducer_of
      pair_starts h k f =
          set_of_lem joined first.starts second.starts p q few (is_joined p q (in_below second.starts q k) (start_reached h k) f) h k

      pair_finals : In first.finals p → In second.finals q → Reached first second p q → In table.finals (state_in p q)
      unfolding pair_transducer transducer_of
      pair_finals h k r =
          set_of_lem joined first.finals second.finals p q few (is_joined p q (in_below second.finals q k) r (end_finishes h k)) h k

    -- from two start states a run has its path
    started : {p q p' q' : ℕ} {x : InputWord} {z : OutputWord} → In first.starts p → In second.starts q
        → Run first second p q x z p' q' → Finishes first second p' q' → Labelled table (state_in p q) (state_in p' q') x z
    started {p} {q} h k run f = run_labelled (in_below first.starts p h) (in_below second.starts q k) (start_reached h k) run f

    module _ (few : length (pairs joined) ≤ most_states) where
      -- so what the composition relates, it relates
      pub composes_related : ((l : ℕ) → l < first.count → (at first l).count ≤ 1)
          → {x : InputWord} {z : OutputWord} → Composes first second x z → Relates table x z
      composes_related one {x} {z} c =
          let a = c.one.accepting in
          let b = c.other.accepting in
          let passed : as_inputs (writes first c.one.π) ≡ reads second c.other.π =
          ap as_inputs (sym (output_to_lem first c.one.π a.last) ∙ c.one.written) ∙ sym c.other.read in
          let run = paths_run first second one a.path b.path passed in
          let path = run_path first second run in
          let ends = end_finishes a.ends b.ends in
          rw (← c.one.read, ← c.other.written, output_to_lem second c.other.π b.last)
          (labelled_relates
          (pair_starts few a.starts b.starts (finishes_along path ends))
          (started a.starts b.starts run ends)
          (pair_finals few a.ends b.ends (reached_along path (start_reached a.starts b.starts))))

      -- every state is useful
      pub pair_useful : (i : ℕ) → i < length (pairs joined) → UsefulState table i
      pair_useful i h =
          let v = pair_at joined most_pairs i h in
          let low = v.low in
          let is : state_in (first_of v.pair) (second_of v.pair) ≡ i = ap (state_of joined) (pair_again v.pair) ∙ v.state in
          let r = ((exactly v.pair).0 v.holds).reached in
          let f = ((exactly v.pair).0 v.holds).finishes in
          let comes = started r.starts r.starts' (path_run first second r.comes).run f in
          let goes = run_labelled (omega arith) (omega arith) r (path_run first second f.goes).run (end_finishes f.ends f.ends') in
          record {
            first = _;
            last = _;
            front = comes.π;
            back = goes.π;
            starts = pair_starts few r.starts r.starts' (finishes_along r.comes f);
            comes = rw is at comes.path;
            goes = rw is at goes.path;
            ends = pair_finals few f.ends f.ends' (reached_along f.goes r);
          }
