-- Joint steps are the steps of two machines: of the first transducer's by what it writes, and of the second's by what it reads. Assumes nothing.
use mathlib.Core.Path.{◌≡◌, refl, sym}
use mathlib.Core.Bool.{true, false, cond}
use mathlib.Core.List.{List}
use mathlib.Core.Logic.{◌≢◌}
use Prim.Native.Nat.{ℕ, zero, suc, ◌/◌, ◌%◌, ◌≤◌, ◌<◌}
use native.Mathlib.Omega.{arith}
use borrow.Author.Tests.{leb-true, ne_eqb}
use lib.Dec.{eqb, leb}
use Rattle.transducer.specs.Transition.{at}
use Rattle.transducer.specs.Valid.{Valid}
use Rattle.transducer.specs.declared.Transducer.{Transducer}
use Rattle.transducer.proofs.Bools.{all_at}
use Rattle.product.specs.Machine.{key_for_of, ImageOf}
use Rattle.product.specs.Numbers.{no_transition, pair_of, first_of, second_of, sides, label_of}
use Rattle.product.specs.Steps.{Steps, target_of}
use Rattle.product.proofs.LabelLaws.{pair_first, pair_second, pair_again, edge_number, Labelled}
use Rattle.product.proofs.ImageLaws.{steps_labelled, labelled_steps, silent_key, written_key}
use Rattle.joints.specs.Joint.{one_code_of, after, joint_step}
use Rattle.joints.proofs.JointLaws.{Joint, side_below, joint_kind, kind_joint, joint_sides, joint_after}

-- ---- what a side takes, as a joint step and as a label counts it

-- what l in a label stands for, as a joint step counts it: none, or the transition l
unfoldable pub choice_of : ℕ → ℕ
choice_of l = cond (eqb l no_transition) 0 (suc l)

-- how a label counts what a side takes in a joint step
abbrev pub in_label : ℕ → ℕ
in_label zero = no_transition
in_label (suc l) = l

-- a label's l is the transition l, but for 256
pub choice_takes : (l : ℕ) → l < no_transition → choice_of l ≡ suc l
unfolding choice_of
choice_takes l h = rw (ne_eqb l no_transition (λ z. omega arith))

pub choice_rests : choice_of no_transition ≡ 0
unfolding choice_of
choice_rests = refl

-- ---- a joint step by its label

-- two transducers in series, and the machine of each
pub record Coupled (first second : Transducer) (left right : List ℕ) : Type 0 where
  pub valid : Valid first
  pub valid' : Valid second
  pub one_code : one_code_of first ≡ true
  pub image : ImageOf first true left
  pub image' : ImageOf second false right

-- each transition writes at most one code where the test says so
pub at_most_one : (t : Transducer) → one_code_of t ≡ true → (l : ℕ) → l < t.count → (at t l).count ≤ 1
unfolding one_code_of
at_most_one t one l h = leb-true _ _ (all_at t.count (λ l. leb (at t l).count 1) one l h)

module _ {first second : Transducer} {left right : List ℕ} (c : Coupled first second left right) where
  -- a transition of the first writes none where its key is 0, and else one
  writes_none : {l : ℕ} → l < first.count → key_for_of true (at first l) ≡ 0 → (at first l).count ≡ 0
  writes_none {l} h z = go (at first l).count refl
    where
      go : (n : ℕ) → (at first l).count ≡ n → n ≡ 0
      go zero e = refl
      go (suc n) e = absurd (let w = (written_key c.valid h (omega (arith, at_most_one first c.one_code l h))).0 in omega (arith, z))

  writes_one : {l : ℕ} → l < first.count → key_for_of true (at first l) ≢ 0 → (at first l).count ≡ 1
  writes_one {l} h z = go (at first l).count refl
    where
      go : (n : ℕ) → (at first l).count ≡ n → n ≡ 1
      go zero e = absurd (z (silent_key c.valid h e))
      go (suc n) e = omega (arith, at_most_one first c.one_code l h)

  -- the label of a step of the transducers is that of a joint step
  pub labelled_joint : {u k v : ℕ} → Labelled first true second false u k v
      → Joint first second (first_of u) (second_of u) (first_of v) (second_of v) (choice_of (k / sides)) (choice_of (k % sides))
  labelled_joint {k = k} (Labelled.by_both l m e x y i z) =
      let h = edge_number c.valid x in
      let h' = edge_number c.valid' y in
      let d : k / sides ≡ l = omega arith in
      let d' : k % sides ≡ m = omega arith in
      rw (d, d', choice_takes l h, choice_takes m h') (Joint.together x y (writes_one x.used z) i)
  labelled_joint {k = k} (Labelled.by_left l e x f i) =
      let d : k / sides ≡ l = omega arith in
      let d' : k % sides ≡ no_transition = omega arith in
      rw (d, d', choice_takes l (edge_number c.valid x), choice_rests) (Joint.first_alone x f (writes_none x.used i))
  labelled_joint {k = k} (Labelled.by_right m e f y i) =
      let h = edge_number c.valid' y in
      let d : k / sides ≡ no_transition = omega arith in
      let d' : k % sides ≡ m = omega arith in
      rw (d, d', choice_takes m h, choice_rests) (Joint.second_alone f y i)

  -- and each joint step has such a label
  pub joint_labelled : {u v a b : ℕ} → Joint first second (first_of u) (second_of u) (first_of v) (second_of v) a b
      → Labelled first true second false u (label_of (in_label a) (in_label b)) v
  joint_labelled (Joint.together {l = l} {m = m} x y i k) =
      Labelled.by_both l m refl x y k (λ z. absurd (let w = (written_key c.valid x.used i).0 in omega (arith, z)))
  joint_labelled (Joint.first_alone {l = l} x e i) = Labelled.by_left l refl x e (silent_key c.valid x.used i)
  joint_labelled (Joint.second_alone {m = m} e y i) = Labelled.by_right m refl e y i

  -- ---- the steps of the machines

  -- a step of the machines with the label l, m
  step_kind : {u : ℕ} (l m : ℕ) → m ≤ no_transition → Steps left right u (label_of l m)
      → Joint first second (first_of u) (second_of u) (first_of (target_of left right u (label_of l m))) (second_of (target_of left right u (label_of l m)))
      (choice_of l) (choice_of m)
  step_kind l m h s =
      let d : label_of l m / sides ≡ l = omega arith in
      let d' : label_of l m % sides ≡ m = omega arith in
      rw (d, d') at (labelled_joint (steps_labelled c.image c.image' s refl))

  -- is a joint step
  pub steps_joint : {u : ℕ} (l m : ℕ) → m ≤ no_transition → Steps left right u (label_of l m)
      → joint_step first second (first_of u) (second_of u) (choice_of l) (choice_of m) ≡ true
  steps_joint l m h s = kind_joint (step_kind l m h s)

  -- which leads to the same pair
  pub target_entered : {u : ℕ} (l m : ℕ) → m ≤ no_transition → Steps left right u (label_of l m)
      → target_of left right u (label_of l m) ≡ pair_of (after first (first_of u) (choice_of l)) (after second (second_of u) (choice_of m))
  target_entered l m h s = let e = joint_after (step_kind l m h s) in rw (e.0, e.1) (sym (pair_again _))

  -- and each joint step is one of the machines
  pub joint_steps : (u a b : ℕ) → joint_step first second (first_of u) (second_of u) a b ≡ true → Steps left right u (label_of (in_label a) (in_label b))
  joint_steps u a b h =
      let j = joint_kind _ _ a b h in
      let p = after first (first_of u) a in
      let q = after second (second_of u) b in
      let low = side_below c.valid' c.valid'.few_states (joint_sides j).1 (omega arith) in
      let v = pair_of p q in
      let j' : Joint first second (first_of u) (second_of u) (first_of v) (second_of v) a b = rw (pair_first p q low, pair_second p q low) j in
      (labelled_steps c.image c.image' (joint_labelled j')).steps
