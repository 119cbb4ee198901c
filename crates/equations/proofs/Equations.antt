-- The functionality test by one equation a step. Of each useful pair only a way out of it is used: what each side of a walk into the pair has still to
-- write to be level with the other, where that way is to come; one of the two needs is empty. Assumes nothing.
use mathlib.Core.Path.{◌≡◌, refl, ap, sym, ◌∙◌}
use mathlib.Core.Bool.{Bool, true, false, not}
use mathlib.Core.List.{List, [], ◌∷◌, ◌++◌, append_assoc}
use Prim.Native.Nat.{ℕ}
use Rattle.transducer.specs.StateSet.{In}
use Rattle.transducer.specs.Transition.{OutputWord}
use Rattle.transducer.specs.Paths.{writes, Functional}
use Rattle.transducer.specs.Useful.{UsefulPair}
use Rattle.transducer.specs.Walks.{Step, Move, Reaches, Leaves}
use Rattle.transducer.specs.declared.Transducer.{Transducer}
use Rattle.transducer.proofs.MoveLaws.{walk_move}
use Rattle.transducer.proofs.PathLaws.{path_nil, output_to_lem}
use Rattle.transducer.proofs.WalkLaws.{walk_nil, walk_cut, reaches_step, useful_pair_between}
use Rattle.witness.specs.Walk.{side_of, output_out}
use Rattle.delays.specs.Needs.{needed}
use Rattle.delays.proofs.Needed.{catch_up, one_empty, equation}
use Rattle.equations.proofs.WalkWords.{functional_of_walks, writes_side, output_side}

module _ (t : Transducer) where
  -- what a list of steps writes on the right side, or on the left
  abbrev W : Bool → List Step → OutputWord
  W r w = writes t (side_of r w)

  -- what that side needs where a way out is to come
  abbrev pub lacks : {x : List Step} {p q : ℕ} → Leaves t x p q → Bool → OutputWord
  lacks o r = needed (output_out t r o) (output_out t (not r) o)

  -- the equation at the step e from a pair with the one way out to a pair with the other
  abbrev pub Holds : {x y : List Step} {p q p' q' : ℕ} → Leaves t x p q → Step → Leaves t y p' q' → Type 0
  Holds o e o' = lacks o true ++ (W false (e ∷ []) ++ lacks o' false) ≡ lacks o false ++ (W true (e ∷ []) ++ lacks o' true)

  -- the way out makes the two sides of the steps u the same
  abbrev pub MadeUp : {x : List Step} {p q : ℕ} → List Step → Leaves t x p q → Type 0
  MadeUp u o = W false u ++ output_out t false o ≡ W true u ++ output_out t true o

  -- a word behind steps joined
  behind : (r : Bool) (u : List Step) (e : Step) (z : OutputWord) → W r (u ++ (e ∷ [])) ++ z ≡ W r u ++ (W r (e ∷ []) ++ z)
  behind r u e z = ap (λ (x : OutputWord). x ++ z) (writes_side t r u (e ∷ [])) ∙ append_assoc (W r u) (W r (e ∷ [])) z

  -- COMPLETE: where the equation fails, the sides of one of two walks differ: the way in and the way out, or the way in, the step and the way out
  -- behind it
  pub holds : {x y : List Step} {p q p' q' : ℕ} (into : List Step) (o : Leaves t x p q) (e : Step) (o' : Leaves t y p' q')
      → MadeUp into o → MadeUp (into ++ (e ∷ [])) o' → Holds o e o'
  holds into o e o' h k =
      equation (W false into) (W true into) (output_out t false o) (output_out t true o) (W false (e ∷ [])) (W true (e ∷ []))
      (output_out t false o') (output_out t true o') h
      (sym (behind false into e (output_out t false o')) ∙ k ∙ behind true into e (output_out t true o'))

  -- after the walk u each side lacks what it needs before the way out
  Level : {x : List Step} {p q : ℕ} → List Step → Leaves t x p q → Type 0
  Level u o = W false u ++ lacks o false ≡ W true u ++ lacks o true

  level_step : {x y : List Step} {p q p' q' : ℕ} (u : List Step) (o : Leaves t x p q) (e : Step) (o' : Leaves t y p' q')
      → Holds o e o' → Level u o → Level (u ++ (e ∷ [])) o'
  unfolding Level
  level_step u o e o' k h =
      let r = W false (e ∷ []) ++ lacks o' false in
      let s = W true (e ∷ []) ++ lacks o' true in
      let n = catch_up (W false u) (W true u) (lacks o false) (lacks o true) r s (one_empty (output_out t false o) (output_out t true o)) h k in
      behind false u e (lacks o' false) ∙ n ∙ sym (behind true u e (lacks o' true))

  -- SOUND: the ways out of final pairs are empty, at start pairs both sides need the same, and the equation holds at each step between useful pairs
  module _ (out : ℕ → ℕ → List Step) (leaves : (p q : ℕ) → UsefulPair t p q → Leaves t (out p q) p q)
      (done : (p q : ℕ) → UsefulPair t p q → In t.finals p → In t.finals q → out p q ≡ [])
      (starts : (p q : ℕ) (h : UsefulPair t p q) → In t.starts p → In t.starts q → lacks (leaves p q h) false ≡ lacks (leaves p q h) true)
      (steps : (p q p' q' : ℕ) (e : Step) (h : UsefulPair t p q) (h' : UsefulPair t p' q') → Move t p q e p' q'
      → Holds (leaves p q h) e (leaves p' q' h'))
    where
      useful : {p q : ℕ} {u w : List Step} → Reaches t u p q → Leaves t w p q → UsefulPair t p q
      useful i o = useful_pair_between.1 (record { into = _; out = _; reaches = i; leaves = o })

      -- an empty way out has no output, so that nothing is needed before it
      no_output : {x : List Step} {p q : ℕ} (r : Bool) (o : Leaves t x p q) → x ≡ [] → output_out t r o ≡ []
      no_output {x} true o e = output_to_lem t (side_of true x) o.f' ∙ ap (W true) e
      no_output {x} false o e = output_to_lem t (side_of false x) o.f ∙ ap (W false) e

      no_lack : {x : List Step} {p q : ℕ} (r : Bool) (o : Leaves t x p q) → x ≡ [] → lacks o r ≡ []
      unfolding needed
      no_lack r o e = rw (no_output r o e, no_output (not r) o e)

      along : (p q : ℕ) (u w : List Step) (i : Reaches t u p q) (o : Leaves t w p q) → Level u (leaves p q (useful i o)) → MadeUp u o
      unfolding Level
      along p q u [] i o h =
          let a : In t.finals p = rw (path_nil o.walk.lefts) o.ends in
          let a' : In t.finals q = rw (path_nil o.walk.rights) o.ends' in
          let x = leaves p q (useful i o) in
          let e = done p q (useful i o) a a' in
          rw (no_output false o refl, no_output true o refl) (rw (no_lack false x e, no_lack true x e) at h)
      along p q u (e ∷ w) i o h =
          let k = walk_cut (e ∷ []) o.walk in
          let i' = reaches_step i k.front in
          let o' : Leaves t w k.p₁ k.q₁ = record { f = o.f; f' = o.f'; ends = o.ends; ends' = o.ends'; walk = k.back } in
          let next = level_step u (leaves p q (useful i o)) e (leaves k.p₁ k.q₁ (useful i' o'))
          (steps p q k.p₁ k.q₁ e (useful i o) (useful i' o') (walk_move e k.front)) h in
          let same = along k.p₁ k.q₁ (u ++ (e ∷ [])) w i' o' next in
          ap (λ (z : OutputWord). W false u ++ z) (output_side t false (e ∷ []) w o.f)
          ∙ sym (behind false u e (output_out t false o')) ∙ same ∙ behind true u e (output_out t true o')
          ∙ ap (λ (z : OutputWord). W true u ++ z) (sym (output_side t true (e ∷ []) w o.f'))

      pub functional : Functional t
      unfolding Level
      functional =
          functional_of_walks t λ w v.
          let i : Reaches t [] v.s v.s' = record { s = v.s; s' = v.s'; starts = v.starts; starts' = v.starts'; walk = walk_nil } in
          along v.s v.s' [] w i v.leaves (starts v.s v.s' (useful i v.leaves) v.starts v.starts')
