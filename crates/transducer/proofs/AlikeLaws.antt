-- Transducers with the same lines, repeats not counted: to be alike is an equivalence; which changes of its lines leave a transducer alike; alike ones
-- have the same relation, the same useful states and pairs, keep the same set, and are functional together. The last follows from `Within` both ways: what each of them
-- has stands in the other. Assumes nothing.
use mathlib.Core.Path.{◌≡◌, refl, sym, ◌∙◌}
use mathlib.Core.Bool.{true}
use mathlib.Core.List.Memᴰ
use mathlib.Core.List.{List, [], ◌∷◌, ◌++◌}
use mathlib.Core.List.Permᴰ
use mathlib.Core.List.{Permᴰ}
use mathlib.Core.Logic.{◌≢◌, ◌↔◌, ⊎_elim}
use Prim.Native.Nat.{ℕ, zero, suc, ◌<◌}
use native.Mathlib.Decide.{ℕ_discrete}
use native.Mathlib.Omega.{arith}
use lib.ListN.{length, get_or, set, length-set}
use lib.Seq.{get_or-set_same, get_or-set_other}
use Rattle.transducer.specs.StateSet.{has}
use Rattle.transducer.specs.Transition.{at, outside}
use Rattle.transducer.specs.Lines.{lines_of, transducer_of, appended, Among, AllAmong}
use Rattle.transducer.specs.Paths.{Functional, Equivalent}
use Rattle.transducer.specs.Useful.{UsefulState, UsefulPair}
use Rattle.transducer.specs.Valid.{Shaped}
use Rattle.transducer.specs.Accepted.{accepted_of}
use Rattle.transducer.specs.Alike.{Alike, exchanged}
use Rattle.transducer.specs.declared.Transition.{Transition}
use Rattle.transducer.specs.declared.Transducer.{Transducer}
use Rattle.transducer.proofs.Bools.{same_flag}
use Rattle.transducer.proofs.StateSetLaws.{same_set}
use Rattle.transducer.proofs.AcceptedLaws.{accepted_kept, made_again}
use Rattle.transducer.proofs.LineLaws.{place_among, lines_long, line_at, at_among, among_numbered, made_lines, appended_lines, each_line}
use Rattle.transducer.proofs.WithinLaws.{Within, relates_within, functional_within, useful_state_within, useful_pair_within}

-- ---- to be alike is an equivalence

pub alike_self : (t : Transducer) → Alike t t
alike_self t = record { states = refl; starts = λ q. refl; finals = λ q. refl; there = λ v m. m; back = λ v m. m }

pub alike_sym : {t t' : Transducer} → Alike t t' → Alike t' t
alike_sym h = record { states = sym h.states; starts = λ q. sym (h.starts q); finals = λ q. sym (h.finals q); there = h.back; back = h.there }

pub alike_trans : {t t' t'' : Transducer} → Alike t t' → Alike t' t'' → Alike t t''
alike_trans h k =
    record {
      states = h.states ∙ k.states;
      starts = λ q. h.starts q ∙ k.starts q;
      finals = λ q. h.finals q ∙ k.finals q;
      there = λ v m. k.there v (h.there v m);
      back = λ v m. h.back v (k.back v m);
    }

-- what one of two alike transducers has stands in the other
pub alike_within : {t t' : Transducer} → Alike t t' → Within t t'
alike_within h = record { starts = λ q k. sym (h.starts q) ∙ k; finals = λ q k. sym (h.finals q) ∙ k; transitions = h.there }

-- ---- what is alike

-- t with any lines that are the same but for repeats and order
pub lines_alike : (t : Transducer) (lines : List Transition) → AllAmong (lines_of t) lines → AllAmong lines (lines_of t)
    → Alike t (transducer_of t.states t.starts t.finals lines)
unfolding transducer_of
lines_alike t lines there back =
    let same = made_lines t.states t.starts t.finals lines in
    record {
      states = refl;
      starts = λ q. refl;
      finals = λ q. refl;
      there = λ v m. rw same (there v m);
      back = λ v m. back v (rw same at m);
    }

-- as many of each line, that is, the same lines in some order: document 01's definition of alike, which says more
permuted_among : {lines lines' : List Transition} → Permᴰ lines lines' → AllAmong lines lines'
permuted_among Permᴰ.nil v m = m
permuted_among (Permᴰ.cons e p) v m =
    ⊎_elim (λ k. Memᴰ.head (k ∙ e)) (λ k. Memᴰ.tail (permuted_among p v k)) (Memᴰ.cases_cons m)
permuted_among (Permᴰ.swap e i) v m =
    ⊎_elim
    (λ k. Memᴰ.tail (Memᴰ.head (k ∙ e)))
    (λ k. ⊎_elim (λ j. Memᴰ.head (j ∙ i)) (λ j. Memᴰ.tail (Memᴰ.tail j)) (Memᴰ.cases_cons k))
    (Memᴰ.cases_cons m)
permuted_among (Permᴰ.trans p q) v m = permuted_among q v (permuted_among p v m)

pub permuted_alike : {t t' : Transducer} → t.states ≡ t'.states → ((q : ℕ) → has t.starts q ≡ has t'.starts q)
    → ((q : ℕ) → has t.finals q ≡ has t'.finals q) → Permᴰ (lines_of t) (lines_of t') → Alike t t'
permuted_alike states starts finals p =
    record { states = states; starts = starts; finals = finals; there = permuted_among p; back = permuted_among (Permᴰ.symm p) }

-- t with one line more behind the last, exactly where that line stands in t already
pub appended_alike : (t : Transducer) (v : Transition) → Alike t (appended t v) ↔ Among v (lines_of t)
appended_alike t v = (
  λ h. h.back v (rw (appended_lines t v) (Memᴰ.append_right (lines_of t) (Memᴰ.head refl))),
  λ m. lines_alike t (lines_of t ++ (v ∷ [])) (λ w k. Memᴰ.append_left (v ∷ []) k) (each_line t v (λ w. Among w (lines_of t)) (at_among t) m),
)

-- so where line l is pasted a second time
pub pasted_alike : (t : Transducer) (l : ℕ) → l < t.count → Alike t (appended t (at t l))
pasted_alike t l h = (appended_alike t (at t l)).1 (at_among t l h)

-- lines that are all among others, after one of these others has been put in the place of one of them
set_among : (lines : List Transition) (l : ℕ) {w : Transition} {lines' : List Transition} → Among w lines' → AllAmong lines lines'
    → AllAmong (set lines l w) lines'
set_among [] l own all v k = all v k
set_among (u ∷ lines) zero own all v k = ⊎_elim (λ e. Memᴰ.cast e own) (λ i. all v (Memᴰ.tail i)) (Memᴰ.cases_cons k)
set_among (u ∷ lines) (suc l) own all v k =
    ⊎_elim (λ e. all v (Memᴰ.head e)) (set_among lines l own (λ w i. all w (Memᴰ.tail i)) v) (Memᴰ.cases_cons k)

-- t with lines l and m exchanged
module _ (t : Transducer) (l m : ℕ) (hl : l < t.count) (hm : m < t.count) where
  abbrev once : List Transition
  once = set (lines_of t) l (at t m)

  abbrev twice : List Transition
  twice = set once m (at t l)

  once_long : length once ≡ t.count
  once_long = length-set (lines_of t) l (at t m) ∙ lines_long t

  -- what stands at a place of it
  stands : (v : Transition) (j : ℕ) → j < t.count → get_or twice j outside ≡ v → Among v twice
  stands v j h e = Memᴰ.cast (sym e) (place_among twice outside j (omega (arith, length-set once m (at t l), once_long)))

  -- each line of t stands at l, at m or where it stood
  line_stands : (k : ℕ) → k < t.count → Among (at t k) twice
  line_stands k h = go (ℕ_discrete k l) (ℕ_discrete k m)
    where
      go : Dec (k ≡ l) → Dec (k ≡ m) → Among (at t k) twice
      go (yes e) d = rw e (stands (at t l) m hm (get_or-set_same once m (at t l) outside (omega (arith, once_long))))
      go (no z) (yes e) =
          let other : l ≢ m = λ i. z (e ∙ sym i) in
          let there = get_or-set_same (lines_of t) l (at t m) outside (omega (arith, lines_long t)) in
          rw e (stands (at t m) l hl (get_or-set_other once m l (at t l) outside other ∙ there))
      go (no z) (no y) =
          stands (at t k) k h (get_or-set_other once m k (at t l) outside y ∙ get_or-set_other (lines_of t) l k (at t m) outside z ∙ line_at t k h)

  pub exchanged_alike : Alike t (exchanged t l m)
  exchanged_alike =
      lines_alike t twice
      (λ v k. let n = among_numbered t k in rw n.same at (line_stands n.number n.below))
      (set_among once m (at_among t l hl) (set_among (lines_of t) l (at_among t m hm) (λ v k. k)))

-- ---- what alike transducers have in common

-- the relation, the useful states and pairs, and whether they are functional
module _ {t t' : Transducer} (h : Alike t t') where
  there : Within t t'
  there = alike_within h

  back : Within t' t
  back = alike_within (alike_sym h)

  pub alike_equivalent : Equivalent t t'
  alike_equivalent x y = (relates_within there, relates_within back)

  pub alike_useful_state : {q : ℕ} → UsefulState t q ↔ UsefulState t' q
  alike_useful_state = (useful_state_within there, useful_state_within back)

  -- so they keep the same set (document 02, job 7)
  pub alike_kept : accepted_of t ≡ true → accepted_of t' ≡ true → Shaped t → Shaped t' → t.useful ≡ t'.useful
  alike_kept a a' s s' =
      same_set t.useful t'.useful s.useful s'.useful
      (λ q. same_flag (has t.useful q) (has t'.useful q)
      (λ m. (accepted_kept t' a' q).1 (alike_useful_state.0 ((accepted_kept t a q).0 m)))
      (λ m. (accepted_kept t a q).1 (alike_useful_state.1 ((accepted_kept t' a' q).0 m))))

  pub alike_useful_pair : {p q : ℕ} → UsefulPair t p q ↔ UsefulPair t' p q
  alike_useful_pair = (useful_pair_within there, useful_pair_within back)

  pub alike_functional : Functional t ↔ Functional t'
  alike_functional = (functional_within back, functional_within there)

  -- and where their lines stand in the same order they are one value: n, start and final states and lines are all that a table has
  pub alike_ordered : lines_of t ≡ lines_of t' → accepted_of t ≡ true → accepted_of t' ≡ true → Shaped t → Shaped t' → t ≡ t'
  alike_ordered lines a a' s s' =
      let starts : t.starts ≡ t'.starts = same_set t.starts t'.starts s.starts s'.starts h.starts in
      let finals : t.finals ≡ t'.finals = same_set t.finals t'.finals s.finals s'.finals h.finals in
      sym (made_again t a s) ∙ (λ i. transducer_of (h.states i) (starts i) (finals i) (lines i)) ∙ made_again t' a' s'
