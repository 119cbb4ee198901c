-- What the loops of the tests carry, in the lists of numbers that they run on: which pairs count, and which of the tests have passed.
use Rattle.std.specs.Prelude.{◌≡◌, Bool, true, false, List, ◌≢◌, ℕ, ◌-◌, ◌≤◌, ◌<◌, length, get_or, Option, MatchOption, IfSome}
use Rattle.transducer.specs.declared.StateSet.{StateSet}
use Rattle.product.specs.Numbers.{most_pairs, no_step_of, Label, PairIn}
use Rattle.product.specs.Machine.{Machine}
use Rattle.product.specs.Steps.{Steps, target_of}
use Rattle.delays.specs.WaysOut.{level, Placed, Grounds, WayLists, TwoWords}
use Rattle.delays.specs.Needs.{needs_of, WayHeld, StepHolds}
use Rattle.delays.specs.declared.equation.StepTo.{StepTo}
use Rattle.equations.specs.declared.At.{At}
use Rattle.equations.specs.declared.At.TheVariants.{Start, Step}
use Rattle.equations.specs.declared.Failure.{Failure}
use Rattle.delays.specs.declared.equation.OnWay.{OnWay}

-- what the tests are of: the start states, the machine, and the ways out of the pairs that count
pub record TestLists : Type 0 where
  pub starts : StateSet
  pub machine : List ℕ
  pub ways : WayLists

-- the first n places of the order have the pairs that count
pub record Places (order : List ℕ) (n : ℕ) (gap : List ℕ) : Type 0 where
  pub long : length order ≡ most_pairs
  pub few : n ≤ most_pairs
  pub low : (h : ℕ) → h < n → get_or order h 0 < most_pairs
  pub counts : (h : ℕ) → h < n → get_or gap (get_or order h 0) 0 ≢ 0
  pub all : (v : ℕ) → get_or gap v 0 ≢ 0 → Placed order n v

-- ---- the tests at the steps from a pair

module _ (m gap : List ℕ) (P : ℕ → ℕ → Type 0) where
  -- P holds of the steps from i to pairs that count, with labels below `high`
  pub record StepsPass (i high : ℕ) : Type 0 where
    pub pass : (label j : ℕ) → label < high → Steps m m i label → target_of m m i label ≡ j → get_or gap j 0 ≢ 0 → P label j

  -- P does not hold of the step s from i to a pair that counts
  pub record Failing (i : ℕ) (s : StepTo) : Type 0 where
    pub step : Steps m m i s.label
    pub target : target_of m m i s.label ≡ s.to
    pub marked : get_or gap s.to 0 ≢ 0
    pub fails : P s.label s.to → ⊥

-- P holds of the step s, if it leads to a pair that counts
pub record Holds (gap : List ℕ) (P : ℕ → ℕ → Type 0) (s : StepTo) : Type 0 where
  pub low : Label s.label
  pub holds : get_or gap s.to 0 ≢ 0 → P s.label s.to

-- P holds of the last step, if there is one
abbrev pub Seen : (gap : List ℕ) → (ℕ → ℕ → Type 0) → Option StepTo → Type 0
Seen gap P last = IfSome last (Holds gap P)

-- ---- the tests at the pairs

module _ (x : TestLists) where
  -- the gap of a pair, which is not 0 where the pair counts
  abbrev pub gap_at : ℕ → ℕ
  gap_at i = get_or x.ways.gap i 0

  -- what the right side, or the left, needs at the pair i
  abbrev pub needs_at : Bool → ℕ → List ℕ
  needs_at right i = needs_of x.ways.written x.ways.link x.ways.label right i

  -- the equation at the steps from i
  abbrev pub EquationFrom : ℕ → ℕ → ℕ → Type 0
  EquationFrom i = StepHolds x.ways.written x.ways.link x.ways.label i

  -- the machine, and the gaps of the pairs that count, 0 for the others; a pair that counts has a way out by pairs that count
  pub record Measured : Type 0 where
    pub machine : Machine x.machine
    pub grounds : Grounds x.ways.written x.ways.link x.ways.label x.ways.gap
    pub onward : (v : ℕ) → gap_at v ≢ 0 → get_or x.ways.link v 0 ≢ 0 → gap_at (get_or x.ways.link v 0 - 1) ≢ 0

  -- i is a pair that counts
  abbrev pub Counts : ℕ → Type 0
  Counts i = (i < most_pairs) × (gap_at i ≢ 0)

  -- what each side needs at the pair i
  pub record NeedsAt (i : ℕ) (needs : TwoWords) : Type 0 where
    pub lefts : needs.left ≡ needs_at false i
    pub rights : needs.right ≡ needs_at true i

  -- the next pair on a way, with two lists that begin with what the two sides of the way out of it write, if it is at hand
  abbrev pub NextHeld : Option OnWay → Type 0
  NextHeld next = IfSome next (λ p. WayHeld x.ways.written x.ways.link x.ways.label p.pair p.sides.left.now 0 p.sides.right.now 0)

  -- the tests at the pair i: if it is a pair of start states nothing is needed there, and the equation holds at the steps to pairs that count
  pub record PairPasses (i : ℕ) : Type 0 where
    pub start : PairIn x.starts x.starts i → needs_at false i ≡ needs_at true i
    pub steps : StepsPass x.machine x.ways.gap (EquationFrom i) i no_step_of

  -- a test fails at the pair i: it is an uneven pair of start states, or the equation does not hold at a step
  abbrev pub BrokenAt : ℕ → At → Type 0
  BrokenAt i Start = PairIn x.starts x.starts i × (gap_at i ≢ level)
  BrokenAt i (Step s) = Failing x.machine x.ways.gap (EquationFrom i) i s

  -- a test fails at a pair that counts
  pub record Broken (f : Failure) : Type 0 where
    pub inside : f.from < most_pairs
    pub marked : gap_at f.from ≢ 0
    pub broken : BrokenAt f.from f.at

  -- the answer of the steps from i: the equation holds at them all, or a step at which it does not hold
  abbrev pub StepsTried : ℕ → Option StepTo → Type 0
  StepsTried i r = MatchOption r (StepsPass x.machine x.ways.gap (EquationFrom i) i no_step_of) (Failing x.machine x.ways.gap (EquationFrom i) i)

  -- the answer of the tests at some pairs: all of them pass, or one fails
  abbrev pub Answer : Type 0 → Option Failure → Type 0
  Answer Pass r = MatchOption r Pass Broken

  -- the answer of the tests at one pair, and at all that count
  abbrev pub PairTried : ℕ → Option Failure → Type 0
  PairTried i r = Answer (PairPasses i) r

  abbrev pub AllTried : Option Failure → Type 0
  AllTried r = Answer ((i : ℕ) → gap_at i ≢ 0 → PairPasses i) r

  -- the pairs that have a flag pass
  pub record Flagged (tested : List Bool) : Type 0 where
    pub long : length tested ≡ most_pairs
    pub pass : (i : ℕ) → get_or tested i false ≡ true → PairPasses i

  -- the answer of the tests at the pair i and at others, which get their flags
  abbrev pub WayTried : ℕ → List Bool → Option Failure → Type 0
  WayTried i tested r = Answer (PairPasses i × Flagged tested) r
