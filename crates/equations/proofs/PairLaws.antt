-- Laws of the tests at the pairs: the answers joined, pair by pair. Assumes nothing.
use mathlib.Core.Path.{◌≡◌, refl, sym, ap, ◌∙◌}
use mathlib.Core.Bool.{Bool, true, false, false≢true, not, ◌&&◌}
use mathlib.Core.List.{List}
use mathlib.Core.Logic.{◌↔◌}
use Prim.Native.Nat.{ℕ, ◌+◌, ◌≤◌, ◌<◌}
use native.Mathlib.Omega.{arith}
use borrow.Author.Tests.{ltb-true, ltb-false, eqb-true, eqb-false}
use lib.Dec.{eqb, ltb}
use lib.ListN.{length, get_or, set, length-set}
use lib.Seq.{get_or-set_other}
use Rattle.std.specs.Prelude.{Option, Some, None, option_map}
use Rattle.product.specs.Numbers.{most_pairs, PairIn}
use Rattle.delays.specs.WaysOut.{level}
use Rattle.delays.specs.declared.equation.StepTo.{StepTo}
use Rattle.delays.proofs.NeedLaws.{none_needed}
use Rattle.equations.specs.Loops.{TestLists, gap_at, Measured, Counts, PairPasses, StepsTried, PairTried, Flagged}
use Rattle.equations.specs.declared.At.TheVariants.{Step}

-- the pairs at the places from h on pass
abbrev pub Behind : TestLists → (order : List ℕ) → ℕ → ℕ → Type 0
Behind x order n h = (k : ℕ) → h ≤ k → k < n → PairPasses x (get_or order k 0)

module _ {x : TestLists} where
  -- the answer of the steps
  pub pair_steps : {i : ℕ} {b d : Bool} (a : Option StepTo) → Measured x → Counts x i → (b ≡ true) ↔ (gap_at x i ≡ level)
      → (d ≡ true) ↔ PairIn x.starts x.starts i → (not b && d) ≡ false
      → StepsTried x i a → PairTried x i (option_map (λ s. record { from = i; at = Step s }) a)
  pair_steps {i} {b} {d} None s c even start e t =
      record {
        start = λ p.
            let g = s.grounds.gaps i c.0 c.1 in
            let l = level_of b even (ap (λ z. not b && z) (sym (start.1 p)) ∙ e) in
            none_needed false g l ∙ sym (none_needed true g l);
        steps = t;
      }
    where
      level_of : (b : Bool) → (b ≡ true) ↔ (gap_at x i ≡ level) → (not b && true) ≡ false → gap_at x i ≡ level
      level_of true t q = t.0 refl
      level_of false t q = absurd (false≢true (sym q))
  pair_steps (Some f) s c even start e t = record { inside = c.0; marked = c.1; broken = t }

  -- one pair more has a flag
  pub flagged_one : {tested : List Bool} {i : ℕ} → Flagged x tested → i < most_pairs → PairPasses x i → Flagged x (set tested i true)
  flagged_one {tested} {i} f h p = record { long = length-set tested i true ∙ f.long; pass = λ v. go v (eqb v i) refl }
    where
      go : (v : ℕ) (b : Bool) → eqb v i ≡ b → get_or (set tested i true) v false ≡ true → PairPasses x v
      go v true e z = let q : v ≡ i = eqb-true v i e in rw q p
      go v false e z = f.pass v (sym (get_or-set_other tested i v true false (eqb-false v i e)) ∙ z)

  -- no pair is flagged at first
  pub flagged_none : {tested : List Bool} → length tested ≡ most_pairs → ((i : ℕ) → get_or tested i false ≡ false) → Flagged x tested
  flagged_none l z = record { long = l; pass = λ i e. absurd (false≢true (sym (z i) ∙ e)) }

  pub behind_one : (order : List ℕ) {n h : ℕ} → Behind x order n (h + 1) → PairPasses x (get_or order h 0) → Behind x order n h
  behind_one order {n} {h} p q k a b = go (ltb h k) refl
    where
      go : (c : Bool) → ltb h k ≡ c → PairPasses x (get_or order k 0)
      go true e = p k (omega (arith, ltb-true h k e)) b
      go false e = let z : h ≡ k = omega (arith, ltb-false h k e) in rw z at q
