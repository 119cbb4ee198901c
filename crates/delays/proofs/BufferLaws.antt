-- Laws of what stands in a buffer: behind a part of it, and at a place. Assumes nothing.
use mathlib.Core.Path.{◌≡◌, refl, sym, ap, ◌∙◌}
use mathlib.Core.List.{List, [], ◌∷◌, ◌++◌, append_assoc, append-nil, append_cancel_left}
use Prim.Native.Nat.{ℕ, suc, ◌+◌, ◌-◌, ◌≤◌, ◌<◌}
use native.Mathlib.Omega.{arith}
use Rattle.std.specs.List.{slice_range}
use lib.ListN.{length, take, drop, get_or, set, length-append, length-drop, length-set}
use lib.Seq.{take-take, take-add, take_all, drop-drop, take-append_seam, take_at, take-suc, take-suc-set, length-take-le}
use Rattle.outputs.specs.Outputs.{Appends, HeldAt}

-- ---- what is written behind a part of a buffer

-- one after the other
pub appends_both : {before middle after u w : List ℕ} {p q r : ℕ} → Appends before p u middle q → Appends middle q w after r
    → Appends before p (u ++ w) after r
appends_both {before} {u = u} {w = w} {p = p} a b =
    record {
      place = omega (arith, a.place, b.place, length-append u w);
      front = b.front ∙ ap (λ (z : List ℕ). z ++ w) a.front ∙ append_assoc (take p before) u w;
    }

-- the same, said otherwise
pub appends_as : {before after w w' : List ℕ} {p r : ℕ} → w ≡ w' → Appends before p w after r → Appends before p w' after r
appends_as e a = rw e at a

-- the part is kept
pub appends_kept : {before after w : List ℕ} {p r : ℕ} → p ≤ length before → Appends before p w after r → take p after ≡ take p before
appends_kept {before} {after} {w} {p} {r} h a =
    sym (take-take p r after (omega (arith, a.place))) ∙ ap (take p) a.front ∙ take_at (take p before) w p (length-take-le p before h)

-- ---- what stands at a place

-- what stands at the front of a buffer
pub appends_held : {before after w : List ℕ} {r : ℕ} → r ≤ length after → Appends before 0 w after r → HeldAt after 0 w
appends_held {after = after} {w = w} {r = r} h a =
    let e : r ≡ length w = omega (arith, a.place) in
    record { within = omega arith; is = ap (λ n. take n after) (sym e) ∙ a.front }

-- a list that is just this
pub held_all : {list w : List ℕ} → list ≡ w → HeldAt list 0 w
held_all {list} {w} e =
    let long = ap length e in
    record { within = omega (arith, long); is = ap (λ (x : List ℕ). take (length w) x) e ∙ take_all (length w) w (omega arith) }

-- the front of what stands at a place
pub held_front : {list w : List ℕ} {p n : ℕ} → HeldAt list p w → n ≤ length w → take n (drop p list) ≡ take n w
held_front {list} {w} {p} {n} h low = sym (take-take n (length w) (drop p list) low) ∙ ap (take n) h.is

-- and the rest of it
pub held_rest : {list : List ℕ} {p : ℕ} (u w : List ℕ) → HeldAt list p (u ++ w) → HeldAt list (p + length u) w
held_rest {list} {p} u w h =
    let both = length-append u w in
    let part = drop p list in
    let first : take (length u) part ≡ u = held_front {n = length u} h (omega (arith, both)) ∙ take-append_seam u w in
    record {
      within = omega (arith, both, h.within);
      is =
          ap (take (length w)) (sym (drop-drop (length u) p list))
          ∙ append_cancel_left u (take (length w) (drop (length u) part)) w
          (ap (λ (z : List ℕ). z ++ take (length w) (drop (length u) part)) (sym first)
          ∙ sym (take-add (length u) (length w) part)
          ∙ ap (λ n. take n part) (sym both)
          ∙ h.is);
    }

-- the same, the list being cut there
pub held_cut : {list w : List ℕ} (p : ℕ) → HeldAt list p w → HeldAt (drop p list) 0 w
held_cut {list} p h = record { within = omega (arith, h.within, length-drop p list); is = h.is }

-- a list from a place on
pub range_rest : (list : List ℕ) (p : ℕ) → slice_range list p (length list) ≡ drop p list
range_rest list p = take_all (length list - p) (drop p list) (omega (arith, length-drop p list))

-- ---- a list that is copied, code by code

-- its first k codes stand behind the first p places of the buffer
pub record Copied (list before : List ℕ) (p : ℕ) (after : List ℕ) (k : ℕ) : Type 0 where
  pub long : length after ≡ length before
  pub front : take (p + k) after ≡ take p before ++ take k list

pub copied_none : (list before : List ℕ) (p : ℕ) → Copied list before p before 0
copied_none list before p =
    let e : p + 0 ≡ p = omega arith in
    record { long = refl; front = ap (λ n. take n before) e ∙ sym (append-nil (take p before)) }

pub copied_more : {list before after : List ℕ} {p k : ℕ} → Copied list before p after k → k < length list → p + k < length before
    → Copied list before p (set after (p + k) (get_or list k 0)) (k + 1)
copied_more {list} {before} {after} {p} {k} c more room =
    let n : p + (k + 1) ≡ suc (p + k) = omega arith in
    let m : k + 1 ≡ suc k = omega arith in
    record {
      long = length-set after (p + k) (get_or list k 0) ∙ c.long;
      front =
          ap (λ i. take i (set after (p + k) (get_or list k 0))) n
          ∙ take-suc-set after (p + k) (get_or list k 0) (omega (arith, c.long))
          ∙ ap (λ (z : List ℕ). z ++ (get_or list k 0 ∷ [])) c.front
          ∙ append_assoc (take p before) (take k list) (get_or list k 0 ∷ [])
          ∙ ap (λ (z : List ℕ). take p before ++ z) (sym (take-suc list k 0 more))
          ∙ ap (λ i. take p before ++ take i list) (sym m);
    }

pub copied_all : {list before after : List ℕ} {p k n : ℕ} → Copied list before p after k → k ≡ n → n ≤ length list
    → Appends before p (take n list) after (p + n)
copied_all {list} {before} {after} {p} {k} {n} c e few =
    let long : length (take n list) ≡ n = length-take-le n list few in
    record { place = omega (arith, long); front = ap (λ i. take (p + i) after) (sym e) ∙ c.front ∙ ap (λ i. take p before ++ take i list) e }
