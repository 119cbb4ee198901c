-- What the test of a transducer says, as facts, and back. Assumes nothing.
use mathlib.Core.Path.{◌≡◌, refl}
use mathlib.Core.Bool.{Bool, true, false, false≢true, ◌&&◌, ◌||◌, not}
use mathlib.Core.Logic.{⊎_elim, ◌↔◌}
use Prim.Native.Nat.{ℕ, ◌≤◌, ◌<◌}
use native.Mathlib.Omega.{arith}
use borrow.Author.Tests.{ltb-true, leb-true, eqb-true, lt-ltb, le-ltb, le-leb, eq-eqb}
use lib.Dec.{eqb, leb, ltb}
use lib.ListN.{get_or}
use Rattle.transducer.specs.Limits.{most_states, most_transitions, most_outputs, most_code}
use Rattle.transducer.specs.StateSet.{has, In}
use Rattle.transducer.specs.Transition.{at}
use Rattle.transducer.specs.Valid.{code_at, Used, Clear, Valid, all_below, code_of, codes_of, used_of, line_of, clear_of, place_of, set_of, valid_of}
use Rattle.transducer.specs.declared.Transition.{Transition}
use Rattle.transducer.specs.declared.StateSet.{StateSet}
use Rattle.transducer.specs.declared.Transducer.{Transducer}
use Rattle.transducer.proofs.Bools.{le_or_lt, and_left, and_right, and_both, and_four, or_cases, or_right, all_at, all_of}

-- ---- a set of states

-- a state in a set is below most_states
pub in_below : (s : StateSet) (q : ℕ) → In s q → q < most_states
unfolding has
in_below s q h = ltb-true q most_states (and_left (ltb q most_states) (get_or s.member q false) h)

module _ (n : ℕ) (s : StateSet) where
  pub set_facts : set_of n s ≡ true → (q : ℕ) → In s q → q < n
  unfolding set_of
  set_facts e q h =
      ⊎_elim (ltb-true q n) (λ z. absurd (false≢true z))
      (or_cases (ltb q n) false (rw h at (all_at most_states (λ p. ltb p n || not (has s p)) e q (in_below s q h))))

  facts_set : ((q : ℕ) → In s q → q < n) → set_of n s ≡ true
  unfolding set_of
  facts_set f = all_of most_states (λ p. ltb p n || not (has s p)) (λ q l. go q (has s q) refl)
    where
      go : (q : ℕ) (b : Bool) → has s q ≡ b → (ltb q n || not (has s q)) ≡ true
      go q true e = rw (lt-ltb q n (f q e))
      go q false e = rw e (or_right (ltb q n) refl)

-- ---- a transition

-- the two sides of the count
code_facts : (v : Transition) → codes_of v ≡ true → (j : ℕ) → j < most_outputs
    → (j < v.count → (1 ≤ code_at v j) × (code_at v j ≤ most_code)) × (v.count ≤ j → code_at v j ≡ 0)
unfolding codes_of code_of
code_facts v e j l =
    let p = all_at most_outputs (code_of v) e j l in (
      λ h. let q = rw (lt-ltb j v.count h) at p in
          (leb-true _ _ (and_left (leb 1 (code_at v j)) (leb (code_at v j) most_code) q), leb-true _ _ (and_right (leb 1 (code_at v j)) (leb (code_at v j) most_code) q)),
      λ h. eqb-true _ _ (rw (le-ltb j v.count h) at p),
    )

facts_codes : (v : Transition) → ((j : ℕ) → j < most_outputs → j < v.count → (1 ≤ code_at v j) × (code_at v j ≤ most_code))
    → ((j : ℕ) → j < most_outputs → v.count ≤ j → code_at v j ≡ 0) → codes_of v ≡ true
unfolding codes_of code_of
facts_codes v u r =
    all_of most_outputs (code_of v)
    (λ j l. ⊎_elim
    (λ (h : v.count ≤ j). rw (le-ltb j v.count h) (eq-eqb (code_at v j) 0 (r j l h)))
    (λ (h : j < v.count). rw (lt-ltb j v.count h) (and_both (le-leb 1 (code_at v j) (u j l h).0) (le-leb (code_at v j) most_code (u j l h).1)))
    (le_or_lt v.count j))

module _ (n : ℕ) (v : Transition) where
  pub used_facts : used_of n v ≡ true → codes_of v ≡ true → Used n v
  unfolding used_of
  used_facts e d =
      let p = and_four (ltb v.from n) (ltb v.to n) (leb v.input.0 most_code) (leb v.count most_outputs) e in
      let few = leb-true v.count most_outputs p.3 in
      record {
        from_state = ltb-true _ _ p.0;
        to_state = ltb-true _ _ p.1;
        input_code = leb-true _ _ p.2;
        few_outputs = few;
        least_code = λ j h. ((code_facts v d j (omega arith)).0 h).0;
        largest_code = λ j h. ((code_facts v d j (omega arith)).0 h).1;
        beyond_zero = λ j h l. (code_facts v d j l).1 h;
      }

  pub facts_used : Used n v → (used_of n v ≡ true) × (codes_of v ≡ true)
  unfolding used_of
  facts_used u = (
    rw (lt-ltb v.from n u.from_state, lt-ltb v.to n u.to_state, le-leb v.input.0 most_code u.input_code)
        (le-leb v.count most_outputs u.few_outputs),
    facts_codes v (λ j l h. (u.least_code j h, u.largest_code j h)) (λ j l h. u.beyond_zero j h l),
  )

-- the test of a line holds exactly of one in use
pub line_exactly : (n : ℕ) (v : Transition) → (line_of n v ≡ true) ↔ Used n v
unfolding line_of
line_exactly n v = (
  λ e. used_facts n v (and_left (used_of n v) (codes_of v) e) (and_right (used_of n v) (codes_of v) e),
  λ u. let b = facts_used n v u in and_both b.0 b.1,
)

module _ (v : Transition) where
  clear_facts : clear_of v ≡ true → codes_of v ≡ true → Clear v
  unfolding clear_of
  clear_facts e d =
      let p = and_four (eqb v.from 0) (eqb v.to 0) (eqb v.input.0 0) (eqb v.count 0) e in
      let none = eqb-true v.count 0 p.3 in
      record {
        from_zero = eqb-true _ _ p.0;
        to_zero = eqb-true _ _ p.1;
        input_zero = eqb-true _ _ p.2;
        count_zero = none;
        outputs_zero = λ j l. (code_facts v d j l).1 (omega arith);
      }

  facts_clear : Clear v → (clear_of v ≡ true) × (codes_of v ≡ true)
  unfolding clear_of
  facts_clear u = (
    rw (eq-eqb v.from 0 u.from_zero, eq-eqb v.to 0 u.to_zero, eq-eqb v.input.0 0 u.input_zero) (eq-eqb v.count 0 u.count_zero),
    facts_codes v (λ j l h. absurd (omega (arith, u.count_zero))) (λ j l h. u.outputs_zero j l),
  )

-- ---- the transducer

place_facts : (t : Transducer) (l : ℕ) → place_of t l ≡ true → (l < t.count → Used t.states (at t l)) × (t.count ≤ l → Clear (at t l))
unfolding place_of
place_facts t l e = (
  λ h. (line_exactly t.states (at t l)).0 (rw (lt-ltb l t.count h) at e),
  λ h.
      let clear = rw (le-ltb l t.count h) at e in
      clear_facts (at t l) (and_left (clear_of (at t l)) (codes_of (at t l)) clear) (and_right (clear_of (at t l)) (codes_of (at t l)) clear),
)

facts_place : (t : Transducer) (l : ℕ) → (l < t.count → Used t.states (at t l)) → (t.count ≤ l → Clear (at t l)) → place_of t l ≡ true
unfolding place_of
facts_place t l u r =
    ⊎_elim
    (λ (h : t.count ≤ l). let p = facts_clear (at t l) (r h) in rw (le-ltb l t.count h) (and_both p.0 p.1))
    (λ (h : l < t.count). rw (lt-ltb l t.count h) ((line_exactly t.states (at t l)).1 (u h)))
    (le_or_lt t.count l)

valid_facts : (t : Transducer) → valid_of t ≡ true → Valid t
unfolding valid_of
valid_facts t e =
    let n = t.states in
    let front = leb 1 n && leb n most_states && set_of n t.starts && set_of n t.finals in
    let few = leb t.count most_transitions in
    let places = all_below most_transitions (place_of t) in
    let p = and_four (leb 1 n) (leb n most_states) (set_of n t.starts) (set_of n t.finals) (and_left front few (and_left (front && few) places e)) in
    let most = leb-true t.count most_transitions (and_right front few (and_left (front && few) places e)) in
    let q = all_at most_transitions (place_of t) (and_right (front && few) places e) in
    record {
      some_state = leb-true _ _ p.0;
      few_states = leb-true _ _ p.1;
      start_state = set_facts n t.starts p.2;
      final_state = set_facts n t.finals p.3;
      few_transitions = most;
      used = λ l h. (place_facts t l (q l (omega arith))).0 h;
      beyond_clear = λ l h k. (place_facts t l (q l k)).1 h;
    }

facts_valid : (t : Transducer) → Valid t → valid_of t ≡ true
unfolding valid_of
facts_valid t f =
    rw (
      le-leb 1 t.states f.some_state,
      le-leb t.states most_states f.few_states,
      facts_set t.states t.starts f.start_state,
      facts_set t.states t.finals f.final_state,
      le-leb t.count most_transitions f.few_transitions,
    )
    (all_of most_transitions (place_of t) (λ l k. facts_place t l (f.used l) (λ h. f.beyond_clear l h k)))

-- the test is true exactly of what keeps the rules
pub valid_exactly : (t : Transducer) → (valid_of t ≡ true) ↔ Valid t
valid_exactly t = (valid_facts t, facts_valid t)
