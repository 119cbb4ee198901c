-- Where a test fails, the walk that is written leads from two start states to two final states in few steps, and its two sides have different
-- outputs. Assumes nothing.
use mathlib.Core.Path.{◌≡◌, ap, subst, ◌∙◌}
use mathlib.Core.List.{List, [], ◌∷◌, ◌++◌, append_assoc, reverse}
use Prim.Native.Nat.{ℕ, ◌+◌, ◌*◌, ◌-◌, ◌≤◌, ◌<◌}
use native.Mathlib.Omega.{arith}
use lib.ListN.{length, get_or, length-append, length-reverse}
use Rattle.worklist.specs.Links.{way_from}
use Rattle.transducer.specs.Valid.{Valid}
use Rattle.transducer.specs.Walks.{Step, Reaches, Leaves}
use Rattle.transducer.specs.declared.StateSet.{StateSet}
use Rattle.transducer.specs.declared.Transducer.{Transducer}
use Rattle.transducer.proofs.AcceptedLaws.{accepted_valid}
use Rattle.transducer.proofs.MoveLaws.{move_walk}
use Rattle.transducer.proofs.WalkLaws.{walk_nil, reaches_step}
use Rattle.product.specs.Numbers.{most_pairs, first_of, second_of, step_of, Label, PairIn, Moves}
use Rattle.product.proofs.Promises.{steps_promised}
use Rattle.pairs.specs.Ways.{Useful, Way, WayIn}
use Rattle.pairs.specs.declared.UsefulPairs.{UsefulPairs}
use Rattle.witness.specs.Walk.{walk_of, Whole, Same}
use Rattle.witness.specs.Sides.{Candidate}
use Rattle.delays.specs.WaysOut.{Links, Led}
use Rattle.equations.specs.Links.{part, StandsAt, round_of, through_of}
use Rattle.equations.specs.Tests.{Standing, WayPasses, Fails}
use Rattle.equations.specs.declared.way.Place.{Place}
use Rattle.equations.proofs.WalkWords.{whole, same_parts}
use Rattle.equations.proofs.WayLaws.{walk_append, way_reaches, way_leaves, useful_low, few_useful}

module _ {t : Transducer} {r : UsefulPairs} {out out_step : List ℕ} (standing : Standing t r out out_step) where
  pub valid : Valid t
  valid = accepted_valid t standing.valid

  pub few : r.count ≤ most_pairs
  few = few_useful standing.valid standing.ways

  pub low : (v : ℕ) → Useful t v → v < most_pairs
  low = useful_low standing.valid standing.ways

  -- the links of ways are links of pairs, and a useful pair has its way
  module _ {ends : StateSet} {Leads : ℕ → ℕ → ℕ → Type 0} {link step : List ℕ} (w : Way t ends Leads link step r.count) where
    links_of : length link ≡ most_pairs → length step ≡ most_pairs → ((j k v : ℕ) → Leads j k v → Label k) → Links link step
    links_of long long' labelled = record { long_link = long; long_label = long'; linked = λ v n. one v (get_or link v 0 - 1) (omega arith) }
      where
        one : (v j : ℕ) → get_or link v 0 ≡ j + 1 → (get_or link v 0 ≤ most_pairs) × Label (get_or step v 0)
        one v j e = let k = w.linked v j e in (omega (arith, low j k.1), labelled j (get_or step v 0) v k.2)

    pub led_by : {v : ℕ} → Useful t v → Led link step v
    led_by {v} u = record { inside = low v u; chain = w.chain v u; short = omega (arith, w.short v u, few) }

  pub links_out : Links out out_step
  links_out = links_of standing.ways.way_out standing.long_out standing.long_out_step (λ j k v. steps_promised.label_low valid v k j)

  pub led_out : {v : ℕ} → Useful t v → Led out out_step v
  led_out = led_by standing.ways.way_out

  pub leaves_out : (v : ℕ) → Useful t v → Leaves t (walk_of (way_from out out_step v)) (first_of v) (second_of v)
  leaves_out = way_leaves standing.ways.way_out

  -- a walk into a pair and the way out of it, at the place p: either its sides have different outputs, or the way out passes
  walk_fails : (v : ℕ) (front : List ℕ) {steps : List ℕ} {p : Place} → Useful t v → Reaches t (walk_of front) (first_of v) (second_of v)
      → StandsAt steps p (front ++ way_from out out_step v) → length (front ++ way_from out out_step v) ≤ 2 * r.count - 1
      → (WayPasses t out out_step (walk_of front) v → ⊥) → Fails t r.count steps p
  walk_fails v front {steps} {p} u i s l d =
      let o = leaves_out v u in
      let e : walk_of (part p steps) ≡ walk_of front ++ walk_of (way_from out out_step v) = ap walk_of s.is ∙ walk_append front (way_from out out_step v) in
      record {
        order = s.order;
        inside = s.inside;
        apart = rw e (record { whole = whole t i o; differ = λ same. d (record { leaves = o; same = (same_parts t i o).0 same }) });
        short = rw s.is l;
      }

  -- at an uneven pair of start states
  pub way_fails : {steps : List ℕ} {p : Place} (v : ℕ) → Useful t v → PairIn t.starts t.starts v
      → StandsAt steps p (way_from out out_step v) → (WayPasses t out out_step [] v → ⊥) → Fails t r.count steps p
  way_fails v u h s d =
      walk_fails v [] u (record { s = first_of v; s' = second_of v; starts = h.first; starts' = h.second; walk = walk_nil }) s
      (omega (arith, standing.ways.way_out.short v u)) d

  module _ {into into_step : List ℕ} (way_in : WayIn t r.count into into_step) where
    -- the links of the ways in, and a pair with a way in
    pub links_in : length into ≡ most_pairs → length into_step ≡ most_pairs → Links into into_step
    links_in long long' = links_of way_in long long' (λ j k v. steps_promised.label_low valid j k v)

    pub led_in : {i : ℕ} → Useful t i → Led into into_step i
    led_in = led_by way_in

    -- the way into i and out of it
    module _ (i : ℕ) {steps : List ℕ} {p : Place} (u : Useful t i) (s : StandsAt steps p (round_of into into_step out out_step i)) where
      round_short : length (round_of into into_step out out_step i) ≤ 2 * r.count - 1
      round_short =
          let front = way_from into into_step i in
          let back = way_from out out_step i in
          omega (arith, length-append (reverse front) back, length-reverse front, way_in.short i u, standing.ways.way_out.short i u)

      -- its steps
      round_is : walk_of (part p steps) ≡ walk_of (reverse (way_from into into_step i)) ++ walk_of (way_from out out_step i)
      round_is = ap walk_of s.is ∙ walk_append (reverse (way_from into into_step i)) (way_from out out_step i)

      pub round_candidate : Candidate t (part p steps)
      round_candidate =
          record { valid = valid; whole = rw round_is (whole t (way_reaches way_in i u) (leaves_out i u)); short = rw s.is (omega (arith, round_short, few)) }

      pub round_fails : ((h : Whole t (walk_of (part p steps))) → Same t h → ⊥) → Fails t r.count steps p
      round_fails d =
          let k = way_reaches way_in i u in
          walk_fails i (reverse (way_from into into_step i)) u k s round_short
          (λ w. subst (λ x. (h : Whole t x) → Same t h → ⊥) round_is d (whole t k w.leaves) ((same_parts t k w.leaves).1 w.same))

      -- where its sides have the same output
      round_passes : ((h : Whole t (walk_of (part p steps))) → Same t h) → WayPasses t out out_step (walk_of (reverse (way_from into into_step i))) i
      round_passes same =
          let k = way_reaches way_in i u in
          let o = leaves_out i u in
          record { leaves = o; same = (same_parts t k o).0 (subst (λ x. (h : Whole t x) → Same t h) round_is same (whole t k o)) }

    -- the way into i, the step and the way out of j, where the sides of the way into i and out of it have the same output
    pub through_fails : (i label j : ℕ) {steps₀ steps : List ℕ} {p₀ p : Place} → Useful t i → Useful t j → Moves t i label j
        → StandsAt steps₀ p₀ (round_of into into_step out out_step i) → ((h : Whole t (walk_of (part p₀ steps₀))) → Same t h)
        → StandsAt steps p (through_of into into_step out out_step i label j)
        → ((w : List Step) → WayPasses t out out_step w i → WayPasses t out out_step (w ++ (step_of label ∷ [])) j → ⊥) → Fails t r.count steps p
    through_fails i label j u u' move n same₀ s d =
        let front = way_from into into_step i in
        let back = way_from out out_step j in
        let one = walk_append (reverse front) (label ∷ []) in
        let two = append_assoc (reverse front) (label ∷ []) back in
        walk_fails j (reverse front ++ (label ∷ [])) u'
        (rw one (reaches_step (way_reaches way_in i u) (move_walk (step_of label) move)))
        (rw two s)
        (omega (
          arith,
          ap length two,
          length-append (reverse front) (label ∷ back),
          length-reverse front,
          way_in.short i u,
          standing.ways.way_out.short j u',
        ))
        (λ w. d (walk_of (reverse front)) (round_passes i u n same₀) (rw one at w))
