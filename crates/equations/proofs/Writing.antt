-- A way that is being written, last step first on the way in and first step first on the way out: what is left to write has the same
-- outcome. One law for each turn of the loops. Assumes nothing.
use mathlib.Core.Path.{◌≡◌, refl, sym, ap, ◌∙◌}
use mathlib.Core.List.{List, [], ◌∷◌, reverse, reverse-cons}
use Prim.Native.Nat.{ℕ, ◌+◌, ◌-◌, ◌≤◌, ◌<◌}
use native.Mathlib.Nat.{sub-zero}
use native.Mathlib.Omega.{arith}
use lib.ListN.{length, get_or, set, length-set, length-reverse}
use Rattle.buffers.specs.Put.{put}
use Rattle.buffers.proofs.PutLaws.{put_none, put_one, put_behind, put_before}
use Rattle.worklist.specs.Links.{way_from}
use Rattle.worklist.proofs.Chains.{chain_none}
use Rattle.delays.specs.WaysOut.{Led}
use Rattle.delays.proofs.WayOutLaws.{Onward}
use Rattle.equations.specs.Links.{most_steps, middle, EnteredBy, LeftBy}

module _ (link label : List ℕ) where
  -- at the pair `node` on the way from v
  pub record Walking (v node : ℕ) : Type 0 where
    pub few : length (way_from link label v) ≤ middle
    pub fewer : length (way_from link label node) ≤ length (way_from link label v)
    pub led : Led link label node

  module _ {v node : ℕ} (w : Walking v node) where
    walking_more : {next : ℕ} → Onward link label [] node next → Walking v next
    walking_more o = record { few = w.few; fewer = omega (arith, w.fewer, o.fewer); led = o.led_next }

    -- where no link leads on, nothing is left
    walking_done : get_or link node 0 ≡ 0 → way_from link label node ≡ []
    walking_done h = chain_none w.led.chain h

  -- the way in: the labels before the place `at` are still to be written
  pub record Entering (v : ℕ) (steps₀ steps : List ℕ) (at node : ℕ) : Type 0 where
    pub walking : Walking v node
    pub place : at + length (way_from link label v) ≡ middle + length (way_from link label node)
    pub long : length steps ≡ length steps₀
    pub rest : put steps (at - length (way_from link label node)) (reverse (way_from link label node))
        ≡ put steps₀ (at - length (way_from link label node)) (reverse (way_from link label v))

  module _ {v : ℕ} {steps₀ steps : List ℕ} {at node : ℕ} (e : Entering v steps₀ steps at node) where
    -- there is room for what is left
    pub entering_room : {next : ℕ} → Onward link label [] node next → (0 < at) × (at ≤ middle)
    entering_room o = (omega (arith, o.fewer, e.place, e.walking.few), omega (arith, e.place, e.walking.fewer))

    -- a turn: the label of the last step that is left
    pub entering_more : {next : ℕ} → length steps₀ ≡ most_steps → Onward link label [] node next
        → Entering v steps₀ (set steps (at - 1) (get_or label node 0)) (at - 1) next
    entering_more {next} long o =
        let r = entering_room o in
        let b = get_or label node 0 in
        let back = way_from link label next in
        let from = at - length (way_from link label node) in
        let same : at - 1 - length back ≡ from = omega (arith, o.fewer, e.place, e.walking.few) in
        record {
          walking = walking_more e.walking o;
          place = omega (arith, o.fewer, e.place, r);
          long = length-set steps (at - 1) b ∙ e.long;
          rest =
              rw same
              (put_before steps from (reverse back) (at - 1) b
              (omega (arith, length-reverse back, o.fewer, e.place, e.walking.few)) (omega (arith, e.long, long, r))
              ∙ ap (put steps from) (sym (ap reverse o.way ∙ reverse-cons b back))
              ∙ e.rest);
        }

    -- the end: all of it is written
    pub entering_done : get_or link node 0 ≡ 0 → EnteredBy link label v steps₀ steps at
    entering_done h =
        let none = walking_done e.walking h in
        record { place = omega (arith, e.place, ap length none); left = sym (put_none steps at) ∙ (rw (none, sub-zero) at e.rest) }

  -- the way out: the labels from the place `at` on are still to be written
  pub record Leaving (v : ℕ) (steps₀ : List ℕ) (start : ℕ) (steps : List ℕ) (at node : ℕ) : Type 0 where
    pub walking : Walking v node
    pub place : at + length (way_from link label node) ≡ start + length (way_from link label v)
    pub long : length steps ≡ length steps₀
    pub rest : put steps at (way_from link label node) ≡ put steps₀ start (way_from link label v)

  module _ {v : ℕ} {steps₀ steps : List ℕ} {start at node : ℕ} (e : Leaving v steps₀ start steps at node) where
    -- there is room for what is left
    pub leaving_room : {next : ℕ} → start ≤ middle + 1 → Onward link label [] node next → at < most_steps
    leaving_room low o = omega (arith, o.fewer, e.place, e.walking.few)

    -- a turn: the label of the first step that is left
    pub leaving_more : {next : ℕ} → start ≤ middle + 1 → length steps₀ ≡ most_steps → Onward link label [] node next
        → Leaving v steps₀ start (set steps at (get_or label node 0)) (at + 1) next
    leaving_more {next} low long o =
        let r = leaving_room low o in
        let b = get_or label node 0 in
        let back = way_from link label next in
        record {
          walking = walking_more e.walking o;
          place = omega (arith, o.fewer, e.place);
          long = length-set steps at b ∙ e.long;
          rest =
              ap (λ s. put s (at + 1) back) (put_one steps at b (omega (arith, e.long, long, r)))
              ∙ put_behind steps at (b ∷ []) (at + 1) back refl (omega (arith, e.long, long, r))
              ∙ ap (put steps at) (sym o.way)
              ∙ e.rest;
        }

    -- the end: all of it is written
    pub leaving_done : get_or link node 0 ≡ 0 → LeftBy link label v steps₀ steps start at
    leaving_done h =
        let none = walking_done e.walking h in
        record { place = omega (arith, e.place, ap length none); left = sym (put_none steps at) ∙ (rw none at e.rest) }
