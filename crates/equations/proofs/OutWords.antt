-- What the ways out write, in the lists of numbers that the equations are computed from, and in the words of the transducer. Assumes nothing.
use mathlib.Core.Path.{◌≡◌, refl, sym, ap, ◌∙◌}
use mathlib.Core.Bool.{Bool, true, false, not, cond}
use mathlib.Core.List.{List, [], ◌∷◌, ◌++◌, map, map-append, append-nil}
use mathlib.Core.Logic.{◌↔◌}
use Prim.Native.Nat.{ℕ, zero, suc, ◌-◌}
use native.Mathlib.Omega.{arith}
use borrow.Author.Tests.{eqb-true, eqb-false}
use lib.Dec.{eqb}
use lib.ListN.{length, take, get_or}
use Rattle.transducer.specs.Transition.{OutputWord, bytes_of}
use Rattle.transducer.specs.Paths.{writes}
use Rattle.transducer.specs.Walks.{Leaves}
use Rattle.transducer.specs.declared.OutputCode.{OutputCode}
use Rattle.transducer.specs.declared.Transducer.{Transducer}
use Rattle.transducer.proofs.SizeLaws.{length_bytes}
use Rattle.transducer.proofs.PathLaws.{output_to_lem}
use Rattle.worklist.specs.Search.{Chain}
use Rattle.worklist.specs.Links.{way_from}
use Rattle.product.specs.Numbers.{no_transition, Label, step_of}
use Rattle.witness.specs.Walk.{walk_of, side_of, output_out}
use Rattle.witness.specs.Sides.{taken_of}
use Rattle.witness.proofs.SideLaws.{side_cons, taken_small}
use Rattle.witness.proofs.Fronts.{same_bytes}
use Rattle.outputs.specs.Outputs.{codes_at, OutputsOf}
use Rattle.delays.specs.WaysOut.{Links, Led, written_on, word_out}
use Rattle.delays.specs.Needs.{needed, needs_of, StepHolds}
use Rattle.equations.proofs.Equations.{Holds, lacks}

-- ---- words as numbers

map_take : {A B : Type 0} (f : A → B) (n : ℕ) (l : List A) → map f (take n l) ≡ take n (map f l)
map_take f zero l = refl
map_take f (suc n) [] = refl
map_take f (suc n) (a ∷ l) = ap (λ z. f a ∷ z) (map_take f n l)

-- what is needed, as numbers
bytes_needed : (x y : OutputWord) → bytes_of (needed x y) ≡ needed (bytes_of x) (bytes_of y)
unfolding needed
bytes_needed x y = map_take (λ (c : OutputCode). c.0) (length x - length y) x ∙ rw (length_bytes x, length_bytes y)

-- ---- a label, and a way out

-- what one side of a list of labels writes, as numbers
abbrev side : Transducer → Bool → List ℕ → List ℕ
side t r labels = bytes_of (writes t (side_of r (walk_of labels)))

side_none : (t : Transducer) (r : Bool) → side t r [] ≡ []
side_none t true = refl
side_none t false = refl

module _ {t : Transducer} {written : List ℕ} (o : OutputsOf t written) where
  -- one label more
  side_more : (r : Bool) (k : ℕ) (labels : List ℕ) → Label k
      → side t r (k ∷ labels) ≡ codes_at written (taken_of r k) ++ side t r labels
  side_more r k labels h =
      ap (λ π. bytes_of (writes t π)) (side_cons r k labels h) ∙ go (eqb (taken_of r k) no_transition) refl
    where
      go : (b : Bool) → eqb (taken_of r k) no_transition ≡ b
          → bytes_of (writes t (cond b [] (taken_of r k ∷ []) ++ side_of r (walk_of labels))) ≡ codes_at written (taken_of r k) ++ side t r labels
      go true e =
          let z : codes_at written (taken_of r k) ≡ [] = ap (codes_at written) (eqb-true (taken_of r k) no_transition e) ∙ o.none in
          ap (λ (w : List ℕ). w ++ side t r labels) (sym z)
      go false e =
          let n = eqb-false (taken_of r k) no_transition e in
          let z = o.codes (taken_of r k) (omega (arith, taken_small r k h, n)) in
          rw (map-append, z)

  -- one label
  side_one : (r : Bool) (k : ℕ) → Label k → side t r (k ∷ []) ≡ codes_at written (taken_of r k)
  side_one r k h = side_more r k [] h ∙ ap (λ (w : List ℕ). codes_at written (taken_of r k) ++ w) (side_none t r) ∙ append-nil (codes_at written (taken_of r k))

  module _ {link label : List ℕ} (links : Links link label) where
    -- the labels of a chain of links
    side_chain : (r : Bool) {v : ℕ} {ls : List ℕ} → Chain link label v ls → written_on written r ls ≡ side t r ls
    unfolding written_on
    side_chain r (Chain.root e) = sym (side_none t r)
    side_chain r {v} (Chain.link {ls = ls} e c) =
        ap (λ (w : List ℕ). codes_at written (taken_of r (get_or label v 0)) ++ w) (side_chain r c)
        ∙ sym (side_more r (get_or label v 0) ls (links.linked v (λ z. omega arith)).1)

    -- the output of a way out
    pub word_is : (r : Bool) {v : ℕ} → Led link label v → {p q : ℕ} (w : Leaves t (walk_of (way_from link label v)) p q)
        → word_out written link label r v ≡ bytes_of (output_out t r w)
    word_is true l w = side_chain true l.chain ∙ ap bytes_of (sym (output_to_lem t _ w.f'))
    word_is false l w = side_chain false l.chain ∙ ap bytes_of (sym (output_to_lem t _ w.f))

    -- what is needed where it is to come
    pub needs_out : (r : Bool) {v : ℕ} → Led link label v → {p q : ℕ} (w : Leaves t (walk_of (way_from link label v)) p q)
        → needs_of written link label r v ≡ bytes_of (lacks t w r)
    needs_out r l w = rw (word_is r l w, word_is (not r) l w) (sym (bytes_needed (output_out t r w) (output_out t (not r) w)))

    -- the equation in numbers is the equation in words
    pub equation_exactly : {i j : ℕ} (k : ℕ) → Label k → Led link label i → Led link label j → {p q p' q' : ℕ}
        (x : Leaves t (walk_of (way_from link label i)) p q) (y : Leaves t (walk_of (way_from link label j)) p' q')
        → StepHolds written link label i k j ↔ Holds t x (step_of k) y
    equation_exactly {i} {j} k low l l' x y =
        let both : (r : Bool) → bytes_of (lacks t x (not r) ++ (writes t (side_of r (step_of k ∷ [])) ++ lacks t y r))
        ≡ needs_of written link label (not r) i ++ (codes_at written (taken_of r k) ++ needs_of written link label r j) =
        λ r. rw (sym (side_one r k low), needs_out (not r) l x, needs_out r l' y, map-append, map-append) in
        (λ z. same_bytes _ _ (both false ∙ z ∙ sym (both true)), λ z. sym (both false) ∙ ap bytes_of z ∙ both true)
