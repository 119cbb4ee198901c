-- What the two edits make of a transducer's places is what the definitions make of its lines. Assumes nothing.
use mathlib.Core.Path.{◌≡◌, sym, ap, ◌∙◌}
use mathlib.Core.List.{List, [], ◌∷◌, ◌++◌}
use mathlib.Core.Logic.{⊎_elim}
use Prim.Native.Nat.{ℕ, suc, ◌+◌, ◌-◌, ◌≤◌, ◌<◌}
use native.Mathlib.Omega.{arith}
use lib.ListN.{length, get_or, set, take, drop, length-set, length-append, length-take, length-drop, get_or-append}
use Rattle.std.specs.List.{between}
use Rattle.std.proofs.lemmas.List.Edits.{length-between, get_or-between}
use borrow.Rule.Slice.PartMut.{put_mid}
use lib.Seq.{get_or_at, get_or-set_same, get_or-set_other, get_or-take, get_or-drop, get_or-append-add, drop-drop}
use Rattle.transducer.specs.Limits.{most_transitions}
use Rattle.transducer.specs.Transition.{at, outside}
use Rattle.transducer.specs.Blank.{clear_transition}
use Rattle.transducer.specs.Valid.{Valid, Shaped}
use Rattle.transducer.specs.Lines.{lines_of, keeping, without, appended, removed}
use Rattle.transducer.specs.declared.Transition.{Transition}
use Rattle.transducer.specs.declared.Transducer.{Transducer}
use Rattle.transducer.proofs.Bools.{le_or_lt}
use Rattle.transducer.proofs.LineLaws.{lines_long, line_at, clear_same, made_of}
use Rattle.transducer.proofs.RemovalLaws.{without_long, without_before, without_after}

-- t with other transitions, and so many of them in use; the set that it keeps is the old one
abbrev pub with_places : Transducer → ℕ → List Transition → Transducer
with_places t count transitions =
    record { states = t.states; starts = t.starts; finals = t.finals; count = count; transitions = transitions; useful = t.useful }

module _ (t : Transducer) (valid : Valid t) (shaped : Shaped t) where
  -- a place that is not in use is clear
  clear_place : (l : ℕ) → t.count ≤ l → l < most_transitions → at t l ≡ clear_transition
  clear_place l h k = clear_same (at t l) (valid.beyond_clear l h k) (shaped.outputs l k)

  -- v in the first place that is not in use
  pub placed_last : (v : Transition) → t.count < most_transitions → keeping (with_places t (t.count + 1) (set t.transitions t.count v)) ≡ appended t v
  placed_last v room =
      made_of t' lines (omega (arith, long)) (sym long) (length-set t.transitions t.count v ∙ shaped.transitions)
      (λ l h. ⊎_elim
      (λ (k : t.count ≤ l). let e : t.count ≡ l = omega (arith, long) in
      rw (← e)
      (get_or-set_same t.transitions t.count v outside (omega (arith, shaped.transitions))
      ∙ sym (get_or_at (lines_of t) v [] outside t.count (lines_long t))))
      (λ (k : l < t.count).
      get_or-set_other t.transitions t.count l v outside (λ e. omega arith)
      ∙ sym (get_or-append (lines_of t) (v ∷ []) outside l (omega (arith, lines_long t)) ∙ line_at t l k))
      (le_or_lt t.count l))
      (λ l h k. get_or-set_other t.transitions t.count l v outside (λ e. omega (arith, long)) ∙ clear_place l (omega (arith, long)) k)
    where
      t' : Transducer
      t' = with_places t (t.count + 1) (set t.transitions t.count v)

      lines : List Transition
      lines = lines_of t ++ (v ∷ [])

      long : length lines ≡ t.count + 1
      long = omega (arith, length-append (lines_of t) (v ∷ []), lines_long t)

-- ---- places that move down one

-- of an array of transitions: those from l + 1 to i have moved down one, the others stand where they stood
pub record MovedTo (l i : ℕ) (before after : List Transition) : Type 0 where
  pub from : l ≤ i
  pub long : length after ≡ most_transitions
  pub ahead : (j : ℕ) → j < l → get_or after j outside ≡ get_or before j outside
  pub moved : (j : ℕ) → l ≤ j → j < i → get_or after j outside ≡ get_or before (suc j) outside
  pub behind : (j : ℕ) → i ≤ j → get_or after j outside ≡ get_or before j outside

after_these : (xs ys : List Transition) (j : ℕ) → length xs ≤ j → get_or (xs ++ ys) j outside ≡ get_or ys (j - length xs) outside
after_these xs ys j h =
    ap (λ k. get_or (xs ++ ys) k outside) (omega arith) ∙ get_or-append-add xs ys (j - length xs) outside

-- they are copied there
pub moved_down : {l i : ℕ} {before part : List Transition} → l ≤ i → i < most_transitions → length before ≡ most_transitions
    → part ≡ between (l + 1) (i + 1) before → MovedTo l i before (put_mid l (i - l) before part)
moved_down {l} {i} {before} {part} le room long same =
    let size : length part ≡ i - l = ap length same ∙ (length-between before (l + 1) (i + 1) (omega arith) ∙ omega arith) in
    let front : length (take l before) ≡ l = omega (arith, length-take l before) in
    let back = drop (i - l) (drop l before) in
    let end : length back + i ≡ most_transitions = simp length-drop (omega arith) in
    record {
      from = le;
      long = simp (length-append, size, front) (omega (arith, end));
      ahead = λ j h. get_or-append (take l before) (part ++ back) outside j (omega arith) ∙ get_or-take l before j outside h;
      moved = λ j h k.
          after_these (take l before) (part ++ back) j (omega arith)
          ∙ get_or-append part back outside (j - length (take l before)) (omega arith)
          ∙ ap (λ p. get_or p (j - length (take l before)) outside) same
          ∙ get_or-between before (l + 1) (i + 1) (j - length (take l before)) outside (omega arith)
          ∙ ap (λ n. get_or before n outside) (omega arith);
      behind = λ j h.
          after_these (take l before) (part ++ back) j (omega arith)
          ∙ after_these part back (j - length (take l before)) (omega arith)
          ∙ ap (λ xs. get_or xs (j - length (take l before) - length part) outside) (drop-drop (i - l) l before)
          ∙ get_or-drop (l + (i - l)) before (j - length (take l before) - length part) outside
          ∙ ap (λ n. get_or before n outside) (omega arith);
    }

module _ (t : Transducer) (valid : Valid t) (shaped : Shaped t) where
  -- the lines after line l moved down one, and the place of the last cleared
  pub closed_up : {l last : ℕ} {after : List Transition} → last + 1 ≡ t.count → l < t.count → MovedTo l last t.transitions after
      → keeping (with_places t last (set after last clear_transition)) ≡ removed t l
  closed_up {l} {last} {after} e below m =
      made_of t' lines (omega (arith, long, few)) (omega (arith, long)) (length-set after last clear_transition ∙ m.long)
      (λ j h. get_or-set_other after last j clear_transition outside (λ z. omega (arith, long)) ∙ at_place j (omega (arith, long)))
      beyond
    where
      t' : Transducer
      t' = with_places t last (set after last clear_transition)

      lines : List Transition
      lines = without l (lines_of t)

      few : t.count ≤ most_transitions
      few = valid.few_transitions

      inside : l < length (lines_of t)
      inside = omega (arith, lines_long t)

      long : length lines + 1 ≡ t.count
      long = without_long l (lines_of t) inside ∙ lines_long t

      at_place : (j : ℕ) → j < last → get_or after j outside ≡ get_or lines j outside
      at_place j h =
          ⊎_elim
          (λ (k : l ≤ j). m.moved j k h ∙ sym (without_after l (lines_of t) j inside k ∙ line_at t (suc j) (omega arith)))
          (λ (k : j < l). m.ahead j k ∙ sym (without_before l (lines_of t) j inside k ∙ line_at t j (omega arith)))
          (le_or_lt l j)

      beyond : (j : ℕ) → length lines ≤ j → j < most_transitions → get_or (set after last clear_transition) j outside ≡ clear_transition
      beyond j h k =
          ⊎_elim
          (λ (b : t.count ≤ j).
          get_or-set_other after last j clear_transition outside (λ z. omega arith) ∙ m.behind j (omega arith) ∙ clear_place t valid shaped j b k)
          (λ (b : j < t.count).
          let same : last ≡ j = omega (arith, long) in
          rw (← same) (get_or-set_same after last clear_transition outside (omega (arith, m.long))))
          (le_or_lt t.count j)

  -- after the lines behind line l are copied to the places before theirs
  pub copied_down : {l : ℕ} {part : List Transition} {clear : Transition} → l < t.count → part ≡ between (l + 1) (t.count - 1 + 1) t.transitions
      → clear ≡ clear_transition
      → keeping (with_places t (t.count - 1) (set (put_mid l (t.count - 1 - l) t.transitions part) (t.count - 1) clear)) ≡ removed t l
  copied_down {l} below same none =
      let few = valid.few_transitions in
      let down : MovedTo l (t.count - 1) t.transitions _ = moved_down (omega arith) (omega arith) shaped.transitions same in
      rw none (closed_up (omega arith) below down)
