-- The tests along a way out whose words are written: one law for each event of the loop. Assumes nothing.
use mathlib.Core.Path.{◌≡◌, refl, sym, ◌∙◌}
use mathlib.Core.Bool.{Bool, true, false, false≢true, not, ◌&&◌}
use mathlib.Core.List.{List}
use mathlib.Core.Logic.{◌≢◌, ◌⊎◌, inl, inr, ◌↔◌}
use Prim.Native.Nat.{ℕ, ◌-◌}
use native.Mathlib.Omega.{arith}
use borrow.Author.Tests.{eqb-true, eqb-false, not-true}
use lib.Dec.{eqb}
use lib.ListN.{get_or, set}
use lib.Seq.{get_or-set_same, get_or-set_other}
use Rattle.transducer.proofs.Bools.{and_left}
use Rattle.delays.specs.WaysOut.{level, Led}
use Rattle.delays.specs.Needs.{WayHeld}
use Rattle.delays.proofs.WayOutLaws.{Onward, onward, gap_ends}
use Rattle.equations.specs.Loops.{TestLists, gap_at, Measured, PairPasses, Flagged}
use Rattle.equations.proofs.PairLaws.{flagged_one}

-- ---- the loop

module _ (x : TestLists) (v : ℕ) where
  -- at the pair i of the way out of v; the two lists begin with what the sides of the way out of i write
  pub record Along (left right : List ℕ) (tested : List Bool) (i : ℕ) : Type 0 where
    pub led : Led x.ways.link x.ways.label i
    pub counts : gap_at x i ≢ 0
    pub held : WayHeld x.ways.written x.ways.link x.ways.label i left 0 right 0
    pub flags : Flagged x tested
    -- v is still to be tested, or has its flag
    pub first : (i ≡ v) ⊎ (get_or tested v false ≡ true)

module _ {x : TestLists} {v : ℕ} (s : Measured x) where
  module _ {left right : List ℕ} {tested : List Bool} {i : ℕ} (z : Along x v left right tested i) where
    -- the way goes on from a pair that is not level
    pub along_ahead : gap_at x i ≢ level → Onward x.ways.link x.ways.label x.ways.written i (get_or x.ways.link i 0 - 1)
    along_ahead n =
        onward s.grounds.lists.links x.ways.written z.led
        (λ e. n (omega (arith, (s.grounds.gaps i z.led.inside z.counts).balance, (gap_ends {written = x.ways.written} z.led e).balance)))

    -- the test of the loop tells that it goes on
    pub along_on : {b : Bool} → (b ≡ true) ↔ (gap_at x i ≡ level) → (d : Bool) → (not b && not d) ≡ true
        → Onward x.ways.link x.ways.label x.ways.written i (get_or x.ways.link i 0 - 1)
    along_on {b} tells d e = along_ahead (λ q. false≢true (sym (not-true b (and_left (not b) (not d) e)) ∙ tells.1 q))

    -- the pair passes
    pub along_more : {next : ℕ} {left' right' : List ℕ} → Onward x.ways.link x.ways.label x.ways.written i next
        → WayHeld x.ways.written x.ways.link x.ways.label next left' 0 right' 0 → PairPasses x i → Along x v left' right' (set tested i true) next
    along_more {next} o held p =
        let to : get_or x.ways.link i 0 - 1 ≡ next = omega (arith, o.next_is) in
        record {
          led = o.led_next;
          counts = rw to at (s.onward i z.counts (λ q. omega (arith, o.next_is)));
          held = held;
          flags = flagged_one z.flags z.led.inside p;
          first = inr (first z.first (eqb v i) refl);
        }
      where
        first : (i ≡ v) ⊎ (get_or tested v false ≡ true) → (b : Bool) → eqb v i ≡ b → get_or (set tested i true) v false ≡ true
        first w true q =
            let same : v ≡ i = eqb-true v i q in
            rw same (get_or-set_same tested i true false (omega (arith, z.flags.long, z.led.inside)))
        first (inl w) false q = absurd (eqb-false v i q (sym w))
        first (inr w) false q = get_or-set_other tested i v true false (eqb-false v i q) ∙ w

    -- the end: v has its flag
    pub along_done : (gap_at x i ≢ level → get_or tested i false ≡ true) → gap_at x v ≢ level → PairPasses x v × Flagged x tested
    along_done e n = (z.flags.pass v (go z.first), z.flags)
      where
        go : (i ≡ v) ⊎ (get_or tested v false ≡ true) → get_or tested v false ≡ true
        go (inl w) = rw w at (e (rw w n))
        go (inr w) = w
