-- What stands where a way in and a way out were written, with or without a step between them. Assumes nothing.
use mathlib.Core.Path.{◌≡◌, ap, ◌∙◌}
use mathlib.Core.List.{List, [], ◌∷◌, ◌++◌, append_assoc, reverse}
use Prim.Native.Nat.{ℕ, ◌+◌, ◌-◌, ◌≤◌}
use native.Mathlib.Omega.{arith}
use lib.ListN.{length, set, length-append, length-reverse}
use Rattle.buffers.specs.Put.{put}
use Rattle.buffers.proofs.PutLaws.{put_one, put_length, put_behind, put_there}
use Rattle.worklist.specs.Links.{way_from}
use Rattle.delays.specs.WaysOut.{Led}
use Rattle.equations.specs.Links.{most_steps, middle, EnteredBy, LeftBy, StandsAt, round_of, through_of}

-- what was put stands there
stands_put : (steps : List ℕ) (a e : ℕ) (w : List ℕ) {after : List ℕ} → after ≡ put steps a w → e ≡ a + length w → e ≤ length steps
    → StandsAt after (record { start = a; end = e }) w
stands_put steps a e w q z h =
    let n : e - a ≡ length w = omega arith in
    rw q
    (record {
      order = omega arith;
      inside = omega (arith, put_length steps a w (omega arith));
      is = rw n (put_there steps a w (omega arith));
    })

-- the way out of v alone
pub way_stands : {link label : List ℕ} {v e : ℕ} {steps after : List ℕ} → length steps ≡ most_steps → Led link label v
    → LeftBy link label v steps after middle e → StandsAt after (record { start = middle; end = e }) (way_from link label v)
way_stands {link} {label} {v} {e} {steps} long s l =
    stands_put steps middle e (way_from link label v) l.left l.place (omega (arith, l.place, s.short))

-- the list with a way in has its length
pub entered_length : {link label : List ℕ} {i a : ℕ} {steps entered : List ℕ} → length steps ≡ most_steps → EnteredBy link label i steps entered a
    → length entered ≡ most_steps
entered_length {link} {label} {i} {a} {steps} long c =
    let front = way_from link label i in
    ap length c.left ∙ put_length steps a (reverse front) (omega (arith, length-reverse front, c.place)) ∙ long

module _ {into into_step : List ℕ} {i a : ℕ} {steps entered : List ℕ} (long : length steps ≡ most_steps)
    (c : EnteredBy into into_step i steps entered a) where
  abbrev front : List ℕ
  front = reverse (way_from into into_step i)

  front_length : a + length front ≡ middle
  front_length = omega (arith, length-reverse (way_from into into_step i), c.place)

  -- the way into i and out of it
  pub round_at : {out out_step after : List ℕ} {e : ℕ} → Led out out_step i → LeftBy out out_step i entered after middle e
      → StandsAt after (record { start = a; end = e }) (round_of into into_step out out_step i)
  round_at {out} {out_step} {after} {e} s l =
      let back = way_from out out_step i in
      let written : after ≡ put steps a (front ++ back) =
      l.left ∙ ap (λ s. put s middle back) c.left
      ∙ put_behind steps a front middle back (omega (arith, front_length)) (omega (arith, c.place))
      in
      stands_put steps a e (front ++ back) written (omega (arith, length-append front back, front_length, l.place)) (omega (arith, l.place, s.short))

  -- the way into i, a step, and the way out of j
  pub through_at : {out out_step after : List ℕ} {e : ℕ} (label j : ℕ) → Led out out_step j → LeftBy out out_step j (set entered middle label) after (middle + 1) e
      → StandsAt after (record { start = a; end = e }) (through_of into into_step out out_step i label j)
  through_at {out} {out_step} {after} {e} label j s l =
      let back = way_from out out_step j in
      let inside : a ≤ length steps = omega (arith, c.place) in
      let one : set entered middle label ≡ put steps a (front ++ (label ∷ [])) =
      put_one entered middle label (omega (arith, entered_length long c)) ∙ ap (λ s. put s middle (label ∷ [])) c.left
      ∙ put_behind steps a front middle (label ∷ []) (omega (arith, front_length)) inside
      in
      let written : after ≡ put steps a (front ++ (label ∷ back)) =
      l.left ∙ ap (λ s. put s (middle + 1) back) one
      ∙ put_behind steps a (front ++ (label ∷ [])) (middle + 1) back (omega (arith, length-append front (label ∷ []), front_length)) inside
      ∙ ap (put steps a) (append_assoc front (label ∷ []) back)
      in
      stands_put steps a e (front ++ (label ∷ back)) written
      (omega (arith, length-append front (label ∷ back), front_length, l.place)) (omega (arith, l.place, s.short))
