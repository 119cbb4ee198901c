-- `how_far`: what the words have in common at the beginning, and what the number of a clash says. The place where two words part is the only one, and the
-- rests past it decide. Assumes nothing.
use mathlib.Core.Bool.{Bool, true, false, cond}
use mathlib.Core.List.{List, [], ◌∷◌}
use mathlib.Core.Logic.{◌≢◌, ◌⊎◌, inl, inr}
use mathlib.Core.Path.{◌≡◌, refl, sym, ap, subst, ◌∙◌}
use Prim.Native.Nat.{ℕ, suc, ◌<◌}
use native.Mathlib.Omega.{arith}
use borrow.Author.Tests.{eqb-true, eqb-false, ltb-true, ltb-false}
use lib.Dec.{eqb, ltb}
use lib.ListN.{length, get_or, drop, length-drop}
use lib.Seq.{take_all, get_or-take, drop-cons}
use Rattle.words.specs.Difference.{shared_of, difference_of}
use Rattle.words.specs.Laws.{Agreeing, Parting, Clashing, HowFar}
use Rattle.words.specs.declared.Comparison.{Comparison}
use Rattle.words.specs.declared.Comparison.TheVariants.{Level, FirstAhead, SecondAhead, Clash}
use Rattle.words.proofs.Stripped.{compare_rests, Stripped, stripped}

-- ---- where two words part

-- with one common code in front they part one place further on
parting_more : {a b : ℕ} {x y : List ℕ} {n : ℕ} → a ≡ b → Parting x y n → Parting (a ∷ x) (b ∷ y) (suc n)
parting_more {a} {b} {x} {y} {n} e p =
    record {
      agreeing = record { in_x = omega (arith, p.agreeing.in_x); in_y = omega (arith, p.agreeing.in_y); same = let s = p.agreeing.same in cc };
      parts = λ l m. p.parts (omega (arith, l)) (omega (arith, m));
    }

-- they part where what they have in common ends
pub parting : (x y : List ℕ) → Parting x y (shared_of x y)
unfolding shared_of
parting [] y = record { agreeing = record { in_x = omega arith; in_y = omega arith; same = refl }; parts = λ l m. absurd (omega (arith, l)) }
parting (a ∷ x) [] = record { agreeing = record { in_x = omega arith; in_y = omega arith; same = refl }; parts = λ l m. absurd (omega (arith, m)) }
parting (a ∷ x) (b ∷ y) = go (eqb a b) refl (parting x y)
  where
    go : (e : Bool) → eqb a b ≡ e → Parting x y (shared_of x y) → Parting (a ∷ x) (b ∷ y) (cond e (suc (shared_of x y)) 0)
    go true e p = parting_more (eqb-true a b e) p
    go false e p =
        record { agreeing = record { in_x = omega arith; in_y = omega arith; same = refl }; parts = λ l m. eqb-false a b e }

-- no further on do they agree
not_beyond : {x y : List ℕ} {n m : ℕ} → Parting x y n → Agreeing x y m → n < m → ⊥
not_beyond {x} {y} {n} {m} p a l =
    p.parts (omega (arith, a.in_x)) (omega (arith, a.in_y))
    (sym (get_or-take m x n 0 l) ∙ ap (λ (z : List ℕ). get_or z n 0) a.same ∙ get_or-take m y n 0 l)

-- they part at one place only
only_there : {x y : List ℕ} {n m : ℕ} → Parting x y n → Parting x y m → n ≡ m
only_there {x} {y} {n} {m} p q = go (ltb n m) refl (ltb m n) refl
  where
    go : (e : Bool) → ltb n m ≡ e → (f : Bool) → ltb m n ≡ f → n ≡ m
    go true e f g = absurd (not_beyond p q.agreeing (ltb-true n m e))
    go false e true g = absurd (not_beyond q p.agreeing (ltb-true m n g))
    go false e false g = omega (arith, ltb-false n m e, ltb-false m n g)

-- ---- a clash

-- the comparison is a clash, and f holds of its number
abbrev Says : Comparison → (ℕ → Type 0) → Type 0
Says Level f = ⊥
Says FirstAhead f = ⊥
Says SecondAhead f = ⊥
Says (Clash n) f = f n

-- where rests past n codes clash, both go on, and the number is n
rests_clash : (n m : ℕ) (x y : List ℕ) → Says (compare_rests n x y) (λ k. k ≡ m) → (n ≡ m) × (0 < length x) × (0 < length y)
rests_clash n m [] [] e = absurd e
rests_clash n m [] (b ∷ y) e = absurd e
rests_clash n m (a ∷ x) [] e = absurd e
rests_clash n m (a ∷ x) (b ∷ y) e = (e, omega arith, omega arith)

module _ (x y : List ℕ) where
  rests : Stripped x y (shared_of x y)
  rests = stripped x y refl

  clash_there : (n : ℕ) → difference_of x y ≡ Clash n → Clashing x y n
  clash_there n e =
      let s = shared_of x y in
      let c = rests_clash s n (drop s x) (drop s y) (subst (λ (d : Comparison). Says d (λ k. k ≡ n)) (sym e ∙ rests.compares) refl) in
      let p : Parting x y n = rw c.0 at (parting x y) in
      record { parting = p; x_goes_on = omega (arith, c.0, c.1, length-drop s x); y_goes_on = omega (arith, c.0, c.2, length-drop s y) }

  there_clash : (n : ℕ) → Clashing x y n → difference_of x y ≡ Clash n
  there_clash n c =
      let e : shared_of x y ≡ n = only_there (parting x y) c.parting in
      let k : Stripped x y n = rw e at rests in
      rw (k.compares, drop-cons x n 0 c.x_goes_on, drop-cons y n 0 c.y_goes_on)

  -- words that are in common as a whole are the same
  below : x ≢ y → (shared_of x y < length x) ⊎ (shared_of x y < length y)
  below different = go (ltb (shared_of x y) (length x)) refl (ltb (shared_of x y) (length y)) refl
    where
      go : (e : Bool) → ltb (shared_of x y) (length x) ≡ e → (f : Bool) → ltb (shared_of x y) (length y) ≡ f
          → (shared_of x y < length x) ⊎ (shared_of x y < length y)
      go true e f g = inl (ltb-true _ _ e)
      go false e true g = inr (ltb-true _ _ g)
      go false e false g =
          absurd
          (different
          (sym (take_all (shared_of x y) x (ltb-false _ _ e)) ∙ (parting x y).agreeing.same ∙ take_all (shared_of x y) y (ltb-false _ _ g)))

  pub how_far : HowFar x y
  how_far =
      record {
        shared = λ n. (λ e. rw e (parting x y), λ p. only_there p (parting x y));
        clash = λ n. (clash_there n, there_clash n);
        below = below;
      }
