-- Laws of the table as it is made: an array that is clear at first, the lines of the listed steps, and the whole. Assumes nothing.
use mathlib.Core.Path.{◌≡◌, refl, sym, ap, subst, ◌∙◌}
use mathlib.Core.Bool.{Bool, true, false, cond, ◌&&◌}
use mathlib.Core.List.Memᴰ
use mathlib.Core.List.{List, [], ◌++◌, Memᴰ, map}
use mathlib.Core.Logic.{⊎_elim}
use Prim.Native.Nat.{ℕ, ◌-◌, ◌/◌, ◌%◌, ◌≤◌, ◌<◌}
use native.Mathlib.Omega.{arith}
use lib.ListN.{length, get_or, replicate, length-replicate, get_or-replicate}
use Rattle.transducer.specs.Limits.{most_states, most_transitions}
use Rattle.transducer.specs.Transition.{outside}
use Rattle.transducer.specs.Blank.{clear_transition}
use Rattle.transducer.specs.Lines.{transducer_of, keeping}
use Rattle.transducer.specs.declared.StateSet.{StateSet}
use Rattle.transducer.specs.declared.Transition.{Transition}
use Rattle.transducer.specs.declared.Transducer.{Transducer}
use Rattle.transducer.proofs.Bools.{and_left}
use Rattle.transducer.proofs.LineLaws as line
use Rattle.transducer.proofs.LineLaws.{place_among}
use Rattle.product.specs.Numbers.{most_pairs, no_transition, sides, label_of}
use Rattle.product.specs.Steps.{past_last, target_of}
use Rattle.product.proofs.TargetLaws.{target_low}
use Rattle.joints.proofs.StepLaws.{Coupled}
use Rattle.series.specs.Result.{state_of, pairs, both_in_of, lines, pair_transducer}
use Rattle.series.specs.Parts.{step_number, pair_in, label_in, step_test, row_of, rows_of, step_at, steps_of, Numbered, takes, line_of, line_by, Placed, Small, Written}
use Rattle.series.proofs.GatherLaws.{gather_at, picked_at, get_d_mapped}
use Rattle.series.proofs.StateLaws.{state_order}
use Rattle.series.proofs.TestLaws.{test_exactly}
use Rattle.series.proofs.OrderLaws.{pair_of_step, label_in_lem, steps_lines, many_steps}

-- an array of clear transitions
pub all_clear : {v : Transition} (n : ℕ) → v ≡ clear_transition
    → (length (replicate n v) ≡ n) × ((j : ℕ) → j < n → get_or (replicate n v) j outside ≡ clear_transition)
all_clear {v} n e = (length-replicate n v, λ j h. get_or-replicate n j v outside h ∙ e)

-- the pair that a step enters, by the label that its two sides make
pub step_target : (left right : List ℕ) (v k : ℕ) {to l m : ℕ} → to ≡ target_of left right v (label_of l m) → l ≡ k / sides → m ≡ k % sides
    → to ≡ target_of left right v k
step_target left right v k e p q = e ∙ ap (target_of left right v) (omega arith)

-- the line of a step, by the pair that it enters and by what its sides take
pub line_made : (first second : Transducer) (left right states : List ℕ) (k : ℕ) {r x y : Transition} {to l m : ℕ}
    → r ≡ line_of (get_or states (pair_in k) 0) (get_or states to 0) x y → to ≡ target_of left right (pair_in k) (label_in k)
    → x ≡ takes first l → y ≡ takes second m → l ≡ label_in k / sides → m ≡ label_in k % sides
    → r ≡ line_by first second left right (λ v. get_or states v 0) k
unfolding line_by
line_made first second left right states k e t a b p q = e ∙ rw (t, a, b, p, q) refl

-- the states are small where there are few
pub numbered_small : {joined : ℕ → Bool} {states : List ℕ} {n : ℕ} → Numbered joined states n → n ≤ most_states → Small states
numbered_small {joined} h few =
    record { long = h.long; low = λ v low. omega (arith, h.state v low, state_order joined most_pairs v (omega arith), h.count) }

-- ---- what the list has

module _ {first second : Transducer} {left right : List ℕ} (c : Coupled first second left right) (joined : ℕ → Bool) where
  -- each of the steps is one of a pair
  row_placed : (v l k : ℕ) → v < most_pairs → l ≤ no_transition → Memᴰ k (row_of left right joined v l) → Placed left right k
  unfolding row_of step_at
  row_placed v l k h low m =
      let g = gather_at past_last _ m in
      let p : (step_test left right v l g.i && joined (target_of left right v (label_of l g.i)) ≡ true) × (k ≡ step_number v l g.i) =
      picked_at _ g.stands in
      let s = (test_exactly c.image.machine c.image'.machine v l g.i low (omega (arith, g.low))).0 (and_left _ _ p.0) in
      let is = p.1 in
      rw is
      (record {
        pair = rw (pair_of_step v l g.i low (omega (arith, g.low))) h;
        step = rw (pair_of_step v l g.i low (omega (arith, g.low)), label_in_lem v l g.i low (omega (arith, g.low))) s;
      })

  steps_placed : (k : ℕ) → Memᴰ k (steps_of left right joined) → Placed left right k
  unfolding steps_of rows_of
  steps_placed k m = let g = gather_at most_pairs _ m in from g.i g.low (joined g.i) g.stands
    where
      from : (v : ℕ) → v < most_pairs → (b : Bool) → Memᴰ k (cond b (rows_of left right joined v) []) → Placed left right k
      from v h true m =
          ⊎_elim
          (λ r. row_placed v no_transition k h (omega arith) r)
          (λ r. let g = gather_at no_transition _ r in row_placed v g.i k h (omega (arith, g.low)) g.stands)
          (Memᴰ.append_cases (row_of left right joined v no_transition) m)
      from v h false m = absurd (Memᴰ.not-nil m)

  module _ {list : List ℕ} (l : list ≡ steps_of left right joined) (most : length list ≤ most_transitions) where
    -- the list is as long as the lines
    pub count_is : length list ≡ length (lines first second joined)
    count_is = ap length l ∙ many_steps c joined

    pub placed_at : (i : ℕ) → i < length list → Placed left right (get_or list i 0)
    placed_at i h = steps_placed _ (subst (Memᴰ (get_or list i 0)) l (place_among list 0 i h))

    -- the array has the lines, and clear transitions behind them
    pub array_is : {states : List ℕ} {n : ℕ} {array : List Transition} → Numbered joined states n
        → Written first second left right states list (length list) array
        → array ≡ lines first second joined ++ replicate (most_transitions - length (lines first second joined)) clear_transition
    unfolding line_by
    array_is {states} {array = array} h w =
        line.array_is (lines first second joined) array (omega (arith, count_is)) w.long at_place (λ j b. w.clear j (omega (arith, count_is)))
      where
        at_place : (j : ℕ) → j < length (lines first second joined) → get_or array j outside ≡ get_or (lines first second joined) j outside
        at_place j b =
            let b' : j < length list = omega (arith, count_is) in
            let p = placed_at j b' in
            let low = target_low c.image.machine c.image'.machine p.pair p.step in
            w.line j b'
            ∙ rw (h.state _ p.pair, h.state _ low) refl
            ∙ sym (get_d_mapped (line_by first second left right (state_of joined)) list outside j b')
            ∙ ap (λ x. get_or x j outside) (ap (map (line_by first second left right (state_of joined))) l ∙ steps_lines c joined)

-- ---- the whole

-- whatever set it kept before
pub table_is : (first second : Transducer) (joined : ℕ → Bool) (n k : ℕ) (s f u : StateSet) (x : List Transition) → n ≡ length (pairs joined)
    → s ≡ both_in_of joined first.starts second.starts → f ≡ both_in_of joined first.finals second.finals
    → k ≡ length (lines first second joined)
    → x ≡ lines first second joined ++ replicate (most_transitions - length (lines first second joined)) clear_transition
    → keeping (record { states = n; starts = s; finals = f; count = k; transitions = x; useful = u }) ≡ pair_transducer first second joined
unfolding pair_transducer transducer_of
table_is first second joined n k s f u x en es ef ek ex =
    (λ i. keeping (record { states = en i; starts = es i; finals = ef i; count = ek i; transitions = ex i; useful = u }))
    ∙ line.keeping_made (length (pairs joined)) (both_in_of joined first.starts second.starts) (both_in_of joined first.finals second.finals)
    (lines first second joined) u
