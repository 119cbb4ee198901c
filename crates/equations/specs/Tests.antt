-- What the functionality test promises: no test fails and the transducer is functional, or one does, and then a walk is found whose two sides have
-- different outputs. The tests: at a useful pair of start states, whether the two sides of the way out of it write equally much; at a step between
-- useful pairs, the equation.
use Rattle.std.specs.Prelude.{◌≡◌, true, false, List, [], ◌∷◌, ◌++◌, ℕ, ◌*◌, ◌-◌, ◌≤◌, length, Option, MatchOption}
use Rattle.worklist.specs.Links.{way_from}
use Rattle.transducer.specs.Accepted.{accepted_of}
use Rattle.transducer.specs.Paths.{writes, Functional}
use Rattle.transducer.specs.Walks.{Step, left_of, right_from, Leaves}
use Rattle.transducer.specs.declared.Transducer.{Transducer}
use Rattle.product.specs.Numbers.{most_pairs, first_of, second_of, step_of, PairIn, Moves}
use Rattle.pairs.specs.Ways.{Useful, WaysOut, Discovered}
use Rattle.pairs.specs.declared.UsefulPairs.{UsefulPairs}
use Rattle.witness.specs.Walk.{walk_of, output_out, Apart}
use Rattle.equations.specs.Links.{part}
use Rattle.equations.specs.declared.At.{At}
use Rattle.equations.specs.declared.At.TheVariants.{Start, Step as AtStep}
use Rattle.equations.specs.declared.Failure.{Failure}
use Rattle.equations.specs.declared.way.Place.{Place}

-- what the tests rely on: a transducer that keeps the rules, and the ways out of its useful pairs
pub record Standing (t : Transducer) (r : UsefulPairs) (out out_step : List ℕ) : Type 0 where
  pub valid : accepted_of t ≡ true
  pub ways : WaysOut t r out out_step
  pub long_out : length out ≡ most_pairs
  pub long_out_step : length out_step ≡ most_pairs

-- what the tests are told of the useful pairs: how many there are, the ways out of them, and the order in which they were found
pub record Listed (t : Transducer) (u : ℕ) (out out_step order : List ℕ) : Type 0 where
  pub found : UsefulPairs
  pub standing : Standing t found out out_step
  pub is : found.count ≡ u
  pub discovered : Discovered t out order u

-- behind the steps u, the way out of v makes the two sides the same
pub record WayPasses (t : Transducer) (out out_step : List ℕ) (u : List Step) (v : ℕ) : Type 0 where
  pub leaves : Leaves t (walk_of (way_from out out_step v)) (first_of v) (second_of v)
  pub same : writes t (left_of u) ++ output_out t false leaves ≡ writes t (right_from u) ++ output_out t true leaves

-- a test fails at the pair i: at an uneven pair of start states the two sides of the way out of it are not the same; at a step from i to another pair,
-- whatever steps come before, they and the way out of i, or they, the step and the way out of that pair, have two sides that are not
abbrev pub DiffersAt : Transducer → (out out_step : List ℕ) → ℕ → At → Type 0
DiffersAt t out out_step i Start = PairIn t.starts t.starts i × (WayPasses t out out_step [] i → ⊥)
DiffersAt t out out_step i (AtStep s) =
    Useful t s.to × Moves t i s.label s.to
    × ((u : List Step) → WayPasses t out out_step u i → WayPasses t out out_step (u ++ (step_of s.label ∷ [])) s.to → ⊥)

-- where a test fails: at a useful pair
pub record Differing (t : Transducer) (out out_step : List ℕ) (f : Failure) : Type 0 where
  pub useful : Useful t f.from
  pub differs : DiffersAt t out out_step f.from f.at

-- the answer of all tests
abbrev pub Tested : Transducer → (out out_step : List ℕ) → Option Failure → Type 0
Tested t out out_step r = MatchOption r (Functional t) (Differing t out out_step)

-- the labels at the place p are those of a walk from two start states to two final states, of at most 2u - 1 steps, whose sides have different outputs
pub record Fails (t : Transducer) (u : ℕ) (steps : List ℕ) (p : Place) : Type 0 where
  pub order : p.start ≤ p.end
  pub inside : p.end ≤ length steps
  pub apart : Apart t (walk_of (part p steps))
  pub short : length (part p steps) ≤ 2 * u - 1
