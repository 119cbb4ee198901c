-- What the tests at the useful pairs say of the transducer: if all pass it is functional, and where one fails the two sides of a walk have
-- different outputs. Assumes nothing.
use mathlib.Core.Path.{◌≡◌, refl, sym, ap, ◌∙◌}
use mathlib.Core.List.{List, [], ◌∷◌, ◌++◌}
use mathlib.Core.Bool.{true, false}
use mathlib.Core.Logic.{◌≢◌}
use Prim.Native.Nat.{ℕ, ◌*◌, ◌-◌, ◌<◌}
use native.Mathlib.Omega.{arith}
use lib.ListN.{length, get_or}
use Rattle.std.specs.Prelude.{Option, Some, None}
use Rattle.transducer.specs.StateSet.{In}
use Rattle.transducer.specs.Transition.{bytes_of}
use Rattle.transducer.specs.Valid.{Valid}
use Rattle.transducer.specs.Paths.{Functional}
use Rattle.transducer.specs.Useful.{UsefulPair}
use Rattle.transducer.specs.Walks.{Step, both, left, right, Move, Leaves}
use Rattle.transducer.specs.declared.Transducer.{Transducer}
use Rattle.product.specs.Numbers.{most_pairs, pair_of, no_transition, sides, label_of, step_of, Moves}
use Rattle.product.specs.Machine.{ImageOf}
use Rattle.product.proofs.Promises.{steps_promised}
use Rattle.pairs.specs.Ways.{Useful}
use Rattle.pairs.specs.declared.UsefulPairs.{UsefulPairs}
use Rattle.witness.proofs.Fronts.{same_bytes}
use Rattle.outputs.specs.Outputs.{Entries, OutputsOf}
use Rattle.delays.specs.WaysOut.{level, Lists, word_out, Placed, Order, Gaps, Grounds}
use Rattle.delays.specs.Needs.{StepHolds}
use Rattle.delays.proofs.WayOutLaws.{placed_more, grounds, gap_there}
use Rattle.equations.specs.Tests.{Standing, Listed, WayPasses, DiffersAt, Tested}
use Rattle.equations.specs.Loops.{TestLists, Measured, Places, PairPasses, BrokenAt, AllTried}
use Rattle.equations.specs.declared.At.{At}
use Rattle.equations.specs.declared.At.TheVariants.{Start, Step as AtStep}
use Rattle.equations.specs.declared.Failure.{Failure}
use Rattle.equations.proofs.Equations as equations
use Rattle.equations.proofs.OutWords.{word_is, needs_out, equation_exactly}
use Rattle.equations.proofs.TestLaws.{valid as is-valid, low, links_out, led_out}
use Rattle.equations.proofs.WayLaws.{numbered, numbered_useful, out_walk, out_leaves, out_done}

-- the label of a step
record LabelOf (e : Step) : Type 0 where
  label : ℕ
  low : label < sides * sides
  is : step_of label ≡ e

-- each step that leads from a pair to a pair has one
label_of_lem : {t : Transducer} → Valid t → (p q p' q' : ℕ) (e : Step) → Move t p q e p' q' → LabelOf e
label_of_lem valid p q p' q' (both l m) move =
    let h = steps_promised.edge_number valid move.0 in
    let h' = steps_promised.edge_number valid move.1 in
    record { label = label_of l m; low = omega arith; is = steps_promised.both_label l m h h' }
label_of_lem valid p q p' q' (left l) move =
    let h = steps_promised.edge_number valid move.0 in
    record { label = label_of l no_transition; low = omega arith; is = steps_promised.left_label l h }
label_of_lem valid p q p' q' (right m) move =
    let h = steps_promised.edge_number valid move.1 in
    record { label = label_of no_transition m; low = omega arith; is = steps_promised.right_label m h }

-- the tests of a transducer, by its lists
abbrev pub tests_of : Transducer → (m written out out_step gap : List ℕ) → TestLists
tests_of t m written out out_step gap =
    record { starts = t.starts; machine = m; ways = record { written = written; link = out; label = out_step; gap = gap } }

-- what the tests are of: the lists are those of the transducer, and the pairs that count are the useful ones
pub record Meant (t : Transducer) (m written out out_step gap : List ℕ) : Type 0 where
  pub image : ImageOf t false m
  pub outputs : OutputsOf t written
  pub grounds : Grounds written out out_step gap
  pub useful : (v : ℕ) → v < most_pairs → get_or gap v 0 ≢ 0 → Useful t v
  pub known : (v : ℕ) → Useful t v → get_or gap v 0 ≢ 0

module _ {t : Transducer} {r : UsefulPairs} {out out_step : List ℕ} (ready : Standing t r out out_step) where
  abbrev valid : Valid t
  valid = is-valid ready

  pub lists_of : {written : List ℕ} → Entries written → Lists written out out_step
  lists_of o = record { outputs = o; links = links_out ready }

  -- ---- where all pass

  module _ {m written gap : List ℕ} (s : Meant t m written out out_step gap)
      (pass : (i : ℕ) → get_or gap i 0 ≢ 0 → PairPasses (tests_of t m written out out_step gap) i) where
    useful_at_lem : (p q : ℕ) → UsefulPair t p q → Useful t (pair_of p q)
    useful_at_lem = numbered_useful ready.valid ready.ways

    at_pair : (p q : ℕ) → UsefulPair t p q → PairPasses (tests_of t m written out out_step gap) (pair_of p q)
    at_pair p q h = pass (pair_of p q) (s.known (pair_of p q) (useful_at_lem p q h))

    abbrev way : (p q : ℕ) → UsefulPair t p q → Leaves t (out_walk ready.valid ready.ways p q) p q
    way = out_leaves ready.valid ready.ways

    starts_pass : (p q : ℕ) (h : UsefulPair t p q) → In t.starts p → In t.starts q
        → equations.lacks t (way p q h) false ≡ equations.lacks t (way p q h) true
    starts_pass p q h a a' =
        let n = numbered ready.valid ready.ways p q h in
        let l = led_out ready (useful_at_lem p q h) in
        same_bytes _ _
        (sym (needs_out s.outputs (links_out ready) false l (way p q h))
        ∙ (at_pair p q h).start (record { first = rw n.0 a; second = rw n.1 a' })
        ∙ needs_out s.outputs (links_out ready) true l (way p q h))

    steps_pass : (p q p' q' : ℕ) (e : Step) (h : UsefulPair t p q) (h' : UsefulPair t p' q') → Move t p q e p' q'
        → equations.Holds t (way p q h) e (way p' q' h')
    steps_pass p q p' q' e h h' move =
        let n = numbered ready.valid ready.ways p q h in
        let n' = numbered ready.valid ready.ways p' q' h' in
        let l = label_of_lem valid p q p' q' e move in
        let moves : Moves t (pair_of p q) l.label (pair_of p' q') = rw (l.is, n.0, n.1, n'.0, n'.1) move in
        let z = steps_promised.move_steps s.image (pair_of p' q') moves in
        let holds = (at_pair p q h).steps.pass l.label (pair_of p' q') l.low z.0 z.1 (s.known (pair_of p' q') (useful_at_lem p' q' h')) in
        rw l.is at
        ((equation_exactly s.outputs (links_out ready) l.label (steps_promised.label_low valid (pair_of p q) l.label (pair_of p' q') moves)
        (led_out ready (useful_at_lem p q h)) (led_out ready (useful_at_lem p' q' h')) (way p q h) (way p' q' h')).0 holds)

    all_pass : Functional t
    all_pass = equations.functional t (out_walk ready.valid ready.ways) way (out_done ready.valid ready.ways) starts_pass steps_pass

  -- ---- where a test fails

  module _ {m written gap : List ℕ} (s : Meant t m written out out_step gap) where
    -- at a pair of start states
    uneven_differs : (v : ℕ) → Useful t v → get_or gap v 0 ≢ level → WayPasses t out out_step [] v → ⊥
    uneven_differs v u n p =
        let left = word_is s.outputs (links_out ready) false (led_out ready u) p.leaves in
        let right = word_is s.outputs (links_out ready) true (led_out ready u) p.leaves in
        let e : length (word_out written out out_step false v) ≡ length (word_out written out out_step true v) =
        ap length (left ∙ ap bytes_of p.same ∙ sym right) in
        n (omega (arith, (s.grounds.gaps v (low ready v u) (s.known v u)).balance))

    -- at a step
    equation_differs : (i label j : ℕ) → Useful t i → Useful t j → Moves t i label j → (StepHolds written out out_step i label j → ⊥)
        → (u : List Step) → WayPasses t out out_step u i → WayPasses t out out_step (u ++ (step_of label ∷ [])) j → ⊥
    equation_differs i label j h h' move fails u round step =
        fails
        ((equation_exactly s.outputs (links_out ready) label (steps_promised.label_low valid i label j move) (led_out ready h) (led_out ready h')
        round.leaves step.leaves).1 (equations.holds t u round.leaves (step_of label) step.leaves round.same step.same))

    differs : (i : ℕ) → i < most_pairs → Useful t i → (a : At) → BrokenAt (tests_of t m written out out_step gap) i a → DiffersAt t out out_step i a
    differs i low u Start z = (z.0, uneven_differs i u z.1)
    differs i low u (AtStep e) z =
        let move = steps_promised.steps_move s.image z.step z.target in
        let to_low : e.to < most_pairs = rw z.target at (steps_promised.target_low s.image.machine s.image.machine low z.step) in
        let u' = s.useful e.to to_low z.marked in
        (u', move, equation_differs i e.label e.to u u' move z.fails)

    -- ---- the answer of all tests

    pub tested : (r : Option Failure) → AllTried (tests_of t m written out out_step gap) r → Tested t out out_step r
    tested None a = all_pass s a
    tested (Some f) a = let u = s.useful f.from a.inside a.marked in record { useful = u; differs = differs f.from a.inside u f.at a.broken }

-- ---- what the tests are told, in the lists that they use

module _ {t : Transducer} {u : ℕ} {out out_step order : List ℕ} (listed : Listed t u out out_step order) where
  -- the order as the gaps need it
  pub order_led : Order out out_step order u
  order_led =
      let d = listed.discovered in
      record {
        long = d.long;
        few = d.few;
        ways = λ h l. led_out listed.standing (d.useful h l);
        earlier = λ h l n. let b = d.back h (get_or out (get_or order h 0) 0 - 1) l (omega arith) in record { place = b.0; low = b.1; is = b.2 };
      }

  module _ {m written gap : List ℕ} (image : ImageOf t false m) (o : OutputsOf t written) (long : length gap ≡ most_pairs)
      (g : Gaps written out out_step order u gap) where
    lists_led : Lists written out out_step
    lists_led = lists_of listed.standing o.entries

    -- the pairs with a place are the useful ones, and those that count
    pub meant : Meant t m written out out_step gap
    meant =
        record {
          image = image;
          outputs = o;
          grounds = grounds lists_led order_led long g;
          useful = λ v _ n. let p = g.only v n in rw p.is at (listed.discovered.useful p.place p.low);
          known = λ v h. let p = listed.discovered.place v h in gap_there lists_led order_led g (record { place = p.0; low = p.1; is = p.2 });
        }

    pub measured : Measured (tests_of t m written out out_step gap)
    measured =
        record {
          machine = image.machine;
          grounds = meant.grounds;
          onward = λ v n h.
              let p = g.only v n in
              let q : Placed order p.place (get_or out v 0 - 1) = rw p.is at (order_led.earlier p.place p.low (rw p.is h)) in
              gap_there lists_led order_led g (placed_more (omega (arith, p.low)) q);
        }

    pub places : Places order u gap
    places =
        let d = listed.discovered in
        record {
          long = d.long;
          few = d.few;
          low = d.low;
          counts = λ h l. gap_there lists_led order_led g (record { place = h; low = l; is = refl });
          all = g.only;
        }
