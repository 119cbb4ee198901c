-- One line less: what stands where, that the rules stay kept, and that nothing new is there. Assumes nothing.
use mathlib.Core.Path.{◌≡◌, refl}
use mathlib.Core.List.Memᴰ
use mathlib.Core.List.{List, [], ◌∷◌}
use mathlib.Core.Logic.{⊎_elim}
use Prim.Native.Nat.{ℕ, zero, suc, ◌+◌, ◌≤◌, ◌<◌}
use native.Mathlib.Omega.{arith}
use lib.ListN.{length, get_or}
use Rattle.transducer.specs.Transition.{outside}
use Rattle.transducer.specs.Valid.{Valid, Shaped}
use Rattle.transducer.specs.Lines.{lines_of, without, removed, Among, AllAmong}
use Rattle.transducer.specs.declared.Transition.{Transition}
use Rattle.transducer.specs.declared.Transducer.{Transducer}
use Rattle.transducer.proofs.LineLaws.{lines_long, among_numbered, made_valid, made_shaped}
use Rattle.transducer.proofs.WithinLaws.{Within, lines_within}

-- ---- lines

-- there is one line less
pub without_long : (l : ℕ) (lines : List Transition) → l < length lines → length (without l lines) + 1 ≡ length lines
unfolding without
without_long l [] h = absurd (omega arith)
without_long zero (v ∷ lines) h = omega arith
without_long (suc l) (v ∷ lines) h = let e = without_long l lines (omega arith) in omega (arith, e)

-- those before line l stay where they are
pub without_before : (l : ℕ) (lines : List Transition) (j : ℕ) → l < length lines → j < l → get_or (without l lines) j outside ≡ get_or lines j outside
unfolding without
without_before l [] j h k = absurd (omega arith)
without_before zero (v ∷ lines) j h k = absurd (omega arith)
without_before (suc l) (v ∷ lines) zero h k = refl
without_before (suc l) (v ∷ lines) (suc j) h k = without_before l lines j (omega arith) (omega arith)

-- those after it move down one
pub without_after : (l : ℕ) (lines : List Transition) (j : ℕ) → l < length lines → l ≤ j → get_or (without l lines) j outside ≡ get_or lines (suc j) outside
unfolding without
without_after l [] j h k = absurd (omega arith)
without_after zero (v ∷ lines) j h k = refl
without_after (suc l) (v ∷ lines) zero h k = absurd (omega arith)
without_after (suc l) (v ∷ lines) (suc j) h k = without_after l lines j (omega arith) (omega arith)

-- nothing new stands there
pub without_among : (l : ℕ) (lines : List Transition) → AllAmong (without l lines) lines
unfolding without
without_among l [] v m = rest_none l m
  where
    rest_none : (l : ℕ) → Among v (without l []) → Among v []
    rest_none zero m = m
    rest_none (suc l) m = m
without_among zero (w ∷ lines) v m = Memᴰ.tail m
without_among (suc l) (w ∷ lines) v m =
    ⊎_elim (λ e. Memᴰ.head e) (λ k. Memᴰ.tail (without_among l lines v k)) (Memᴰ.cases_cons m)

-- ---- a transducer

module _ (t : Transducer) (l : ℕ) where
  -- what is left lies within what there was (document 02, job 12)
  pub removed_within : Within (removed t l) t
  removed_within = lines_within t (without l (lines_of t)) (without_among l (lines_of t))

  -- the rules stay kept
  pub removed_valid : Valid t → l < t.count → Valid (removed t l)
  removed_valid h k =
      (made_valid t.states t.starts t.finals (without l (lines_of t))).1
      (record {
        some_state = h.some_state;
        few_states = h.few_states;
        start_state = h.start_state;
        final_state = h.final_state;
        few_lines = omega (arith, without_long l (lines_of t) (omega (arith, lines_long t)), lines_long t, h.few_transitions);
        used = λ w m. let n = among_numbered t (without_among l (lines_of t) w m) in rw n.same at (h.used n.number n.below);
      })

  pub removed_shaped : Valid t → Shaped t → l < t.count → Shaped (removed t l)
  removed_shaped h s k =
      made_shaped t.states t.starts t.finals (without l (lines_of t)) s.starts s.finals
      (omega (arith, without_long l (lines_of t) (omega (arith, lines_long t)), lines_long t, h.few_transitions))
      (λ w m. let n = among_numbered t (without_among l (lines_of t) w m) in rw n.same at (s.outputs n.number (omega (arith, n.below, h.few_transitions))))
