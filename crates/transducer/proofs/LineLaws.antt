-- A transducer and the list of its lines: each makes the other, and the lines tell what the transitions are and whether the rules are kept.
-- Assumes nothing.
use mathlib.Core.Path.{◌≡◌, refl, sym, ap, subst, ◌∙◌}
use mathlib.Core.List.Memᴰ
use mathlib.Core.List.{List, [], ◌∷◌, ◌++◌, Memᴰ}
use mathlib.Core.Logic.{◌↔◌, ⊎_elim}
use Prim.Native.Nat.{ℕ, zero, suc, ◌+◌, ◌-◌, ◌≤◌, ◌<◌}
use native.Mathlib.Nat.{eq-or-lt_of_le, le_of_suc-le-suc}
use native.Mathlib.Omega.{arith}
use lib.ListN.{length, get_or, replicate, length-append, length-replicate, get_or-replicate, get_or-append}
use lib.Seq.{get_or_at, get_or-append-add, ext_get_or}
use Rattle.transducer.specs.Limits.{most_states, most_transitions, most_outputs}
use Rattle.transducer.specs.Transition.{at, outside, firsts, output_at, written_by}
use Rattle.transducer.specs.Blank.{clear_transition}
use Rattle.transducer.specs.Valid.{Used, Clear, Valid, Shaped}
use Rattle.transducer.specs.Kept.{useful_of, useful_set}
use Rattle.transducer.specs.Lines.{lines_of, transducer_of, useful_in, keeping_set, keeping, appended, Among, Keeps}
use Rattle.transducer.specs.declared.OutputCode.{OutputCode}
use Rattle.transducer.specs.declared.StateSet.{StateSet}
use Rattle.transducer.specs.declared.Transition.{Transition}
use Rattle.transducer.specs.declared.Transducer.{Transducer}
use Rattle.transducer.proofs.Bools.{le_or_lt}
use Rattle.transducer.proofs.SizeLaws.{length_firsts, length_written}

-- ---- the lines of a list

-- value j of the first n
pub get_d_firsts : {A : Type 0} (n : ℕ) (f : ℕ → A) (d : A) (j : ℕ) → j < n → get_or (firsts n f) j d ≡ f j
unfolding firsts
get_d_firsts zero f d j h = absurd (omega arith)
get_d_firsts (suc n) f d j h =
    ⊎_elim
    (λ (e : j ≡ n). rw e (get_or_at (firsts n f) (f n) [] d n (length_firsts n f)))
    (λ (l : j < n). get_or-append (firsts n f) (f n ∷ []) d j (omega (arith, length_firsts n f)) ∙ get_d_firsts n f d j l)
    (eq-or-lt_of_le (le_of_suc-le-suc h))

-- what stands at a place of a list stands in it
pub place_among : {A : Type 0} (x : List A) (d : A) (i : ℕ) → i < length x → Memᴰ (get_or x i d) x
place_among [] d i h = absurd (omega arith)
place_among (a ∷ x) d zero h = Memᴰ.head refl
place_among (a ∷ x) d (suc i) h = Memᴰ.tail (place_among x d i (omega arith))

-- and one of the lines stands at a place
record Place (v : Transition) (lines : List Transition) : Type 0 where
  number : ℕ
  below : number < length lines
  same : get_or lines number outside ≡ v

among_place : {v : Transition} {lines : List Transition} → Among v lines → Place v lines
among_place (Memᴰ.head e) = record { number = 0; below = omega arith; same = sym e }
among_place (Memᴰ.tail m) = let p = among_place m in record { number = suc p.number; below = omega (arith, p.below); same = p.same }

-- ---- from a transducer to its lines

module _ (t : Transducer) where
  -- they are as many as the count says
  pub lines_long : length (lines_of t) ≡ t.count
  lines_long = length_firsts t.count (at t)

  -- line l is transition l
  pub line_at : (l : ℕ) → l < t.count → get_or (lines_of t) l outside ≡ at t l
  line_at l h = get_d_firsts t.count (at t) outside l h

  -- so a transition is one of the lines
  pub at_among : (l : ℕ) → l < t.count → Among (at t l) (lines_of t)
  at_among l h = rw (line_at l h) at (place_among (lines_of t) outside l (omega (arith, lines_long)))

-- they are these, where each place has its own
lines_are : (t : Transducer) (lines : List Transition) → t.count ≡ length lines → ((l : ℕ) → l < length lines → at t l ≡ get_or lines l outside)
    → lines_of t ≡ lines
lines_are t lines count line =
    ext_get_or outside (lines_of t) lines (lines_long t ∙ count)
    (λ l h. let k : l < t.count = omega (arith, lines_long t) in line_at t l k ∙ line l (omega (arith, count)))

-- and one of the lines is a transition
pub record Numbered (t : Transducer) (v : Transition) : Type 0 where
  pub number : ℕ
  pub below : number < t.count
  pub same : at t number ≡ v

pub among_numbered : (t : Transducer) {v : Transition} → Among v (lines_of t) → Numbered t v
among_numbered t m =
    let p = among_place m in
    let h : p.number < t.count = omega (arith, lines_long t, p.below) in
    record { number = p.number; below = h; same = sym (line_at t p.number h) ∙ p.same }

-- ---- from lines to a transducer

-- behind the lines an array has clear transitions
behind_clear : (lines : List Transition) (l : ℕ) → length lines ≤ l → l < most_transitions
    → get_or (lines ++ replicate (most_transitions - length lines) clear_transition) l outside ≡ clear_transition
behind_clear lines l h k =
    let beyond : length lines + (l - length lines) ≡ l = omega arith in
    let rest = replicate (most_transitions - length lines) clear_transition in
    ap (λ i. get_or (lines ++ rest) i outside) (sym beyond) ∙ get_or-append-add lines rest (l - length lines) outside
    ∙ get_or-replicate (most_transitions - length lines) (l - length lines) clear_transition outside (omega arith)

module _ (n : ℕ) (starts finals : StateSet) (lines : List Transition) where
  -- transition l is line l
  pub made_at : (l : ℕ) → l < length lines → at (transducer_of n starts finals lines) l ≡ get_or lines l outside
  unfolding transducer_of
  made_at l h = get_or-append lines _ outside l h

  -- the places beyond are clear
  pub made_clear : (l : ℕ) → length lines ≤ l → l < most_transitions → at (transducer_of n starts finals lines) l ≡ clear_transition
  unfolding transducer_of
  made_clear l h k = behind_clear lines l h k

  -- its lines are the ones of which it is made
  pub made_lines : lines_of (transducer_of n starts finals lines) ≡ lines
  unfolding transducer_of
  made_lines = lines_are (transducer_of n starts finals lines) lines refl made_at

-- ---- back again

-- a transition that is not in use, and whose array has its length, is the clear one
pub clear_same : (v : Transition) → Clear v → length v.output ≡ most_outputs → v ≡ clear_transition
clear_same v c size =
    let none : OutputCode = record { 0 = 0 } in
    let outputs : v.output ≡ replicate most_outputs none =
    ext_get_or none v.output (replicate most_outputs none) (size ∙ sym (length-replicate most_outputs none))
    (λ j h. let k : j < most_outputs = omega (arith, size) in code (output_at v j) (c.outputs_zero j k) ∙ sym (get_or-replicate most_outputs j none none k))
    in
    λ i. record { from = c.from_zero i; to = c.to_zero i; input = record { 0 = c.input_zero i }; count = c.count_zero i; output = outputs i }
  where
    code : (a : OutputCode) → a.0 ≡ 0 → a ≡ record { 0 = 0 }
    code a e = λ i. record { 0 = e i }

-- an array that has these lines, and clear transitions behind them
pub array_is : (lines array : List Transition) → length lines ≤ most_transitions → length array ≡ most_transitions
    → ((l : ℕ) → l < length lines → get_or array l outside ≡ get_or lines l outside)
    → ((l : ℕ) → length lines ≤ l → l < most_transitions → get_or array l outside ≡ clear_transition)
    → array ≡ lines ++ replicate (most_transitions - length lines) clear_transition
array_is lines array few size line clear = ext_get_or outside array (lines ++ rest) (size ∙ sym long) place
  where
    rest : List Transition
    rest = replicate (most_transitions - length lines) clear_transition

    long : length (lines ++ rest) ≡ most_transitions
    long = omega (arith, length-append lines rest, length-replicate (most_transitions - length lines) clear_transition)

    place : (l : ℕ) → l < length array → get_or array l outside ≡ get_or (lines ++ rest) l outside
    place l h =
        ⊎_elim
        (λ (k : length lines ≤ l). clear l k (omega (arith, size)) ∙ sym (behind_clear lines l k (omega (arith, size))))
        (λ (k : l < length lines). line l k ∙ sym (get_or-append lines rest outside l k))
        (le_or_lt (length lines) l)

-- a transducer with these lines and clear transitions behind them is made of them, once it keeps its useful states
pub made_of : (t : Transducer) (lines : List Transition) → length lines ≤ most_transitions → t.count ≡ length lines
    → length t.transitions ≡ most_transitions → ((l : ℕ) → l < length lines → at t l ≡ get_or lines l outside)
    → ((l : ℕ) → length lines ≤ l → l < most_transitions → at t l ≡ clear_transition)
    → keeping t ≡ transducer_of t.states t.starts t.finals lines
unfolding transducer_of keeping
made_of t lines few count size line clear =
    let array = array_is lines t.transitions few size line clear in
    let same = lines_are t lines count line in
    λ i. record {
      states = t.states;
      starts = t.starts;
      finals = t.finals;
      count = count i;
      transitions = array i;
      useful = useful_set t.states t.starts t.finals (same i);
    }

-- what is made of lines keeps their useful states, whatever set it kept before
pub keeping_made : (n : ℕ) (starts finals : StateSet) (lines : List Transition) (u : StateSet)
    → keeping (keeping_set (transducer_of n starts finals lines) u) ≡ transducer_of n starts finals lines
unfolding transducer_of keeping
keeping_made n starts finals lines u =
    λ i. keeping_set (transducer_of n starts finals lines) (useful_set n starts finals (made_lines n starts finals lines i))

-- one that keeps the rules is made of its own parts
pub made_keeping : (t : Transducer) → Valid t → Shaped t → transducer_of t.states t.starts t.finals (lines_of t) ≡ keeping t
made_keeping t v s =
    let long = lines_long t in
    sym
    (made_of t (lines_of t) (omega (arith, long, v.few_transitions)) (sym long) s.transitions
    (λ l h. sym (line_at t l (omega (arith, long))))
    (λ l h k. clear_same (at t l) (v.beyond_clear l (omega (arith, long)) k) (s.outputs l k)))

-- ---- the rules

pub clear_clear : Clear clear_transition
clear_clear =
    record {
      from_zero = refl;
      to_zero = refl;
      input_zero = refl;
      count_zero = refl;
      outputs_zero = λ j h. ap (λ (c : OutputCode). c.0) (get_or-replicate most_outputs j _ _ h);
    }

-- the set that is kept is no matter of theirs
pub set_valid : (t : Transducer) (s : StateSet) → Valid (keeping_set t s) ↔ Valid t
set_valid t s = (
  λ v. record {
    some_state = v.some_state;
    few_states = v.few_states;
    start_state = v.start_state;
    final_state = v.final_state;
    few_transitions = v.few_transitions;
    used = v.used;
    beyond_clear = v.beyond_clear;
  },
  λ v. record {
    some_state = v.some_state;
    few_states = v.few_states;
    start_state = v.start_state;
    final_state = v.final_state;
    few_transitions = v.few_transitions;
    used = v.used;
    beyond_clear = v.beyond_clear;
  },
)

pub keeping_valid : (t : Transducer) → Valid (keeping t) ↔ Valid t
unfolding keeping
keeping_valid t = set_valid t (useful_in t)

-- what is made keeps the rules exactly where its parts do
module _ (n : ℕ) (starts finals : StateSet) (lines : List Transition) where
  pub made_valid : Valid (transducer_of n starts finals lines) ↔ Keeps n starts finals lines
  unfolding transducer_of
  made_valid = (
    λ v. record {
      some_state = v.some_state;
      few_states = v.few_states;
      start_state = v.start_state;
      final_state = v.final_state;
      few_lines = v.few_transitions;
      used = λ w m. let p = among_place m in rw (made_at n starts finals lines p.number p.below, p.same) at (v.used p.number p.below);
    },
    λ k. record {
      some_state = k.some_state;
      few_states = k.few_states;
      start_state = k.start_state;
      final_state = k.final_state;
      few_transitions = k.few_lines;
      used = λ l h. rw (made_at n starts finals lines l h) (k.used _ (place_among lines outside l h));
      beyond_clear = λ l h b. rw (made_clear n starts finals lines l h b) clear_clear;
    },
  )

  -- the set of useful states has a flag for each state
  pub set_long : length (useful_set n starts finals lines).member ≡ most_states
  unfolding useful_set
  set_long = length_firsts most_states (useful_of n starts finals lines)

  -- and its arrays have their lengths where those of its parts do
  pub made_shaped : length starts.member ≡ most_states → length finals.member ≡ most_states → length lines ≤ most_transitions
      → ((v : Transition) → Among v lines → length v.output ≡ most_outputs) → Shaped (transducer_of n starts finals lines)
  unfolding transducer_of
  made_shaped s f few sizes =
      record {
        starts = s;
        finals = f;
        transitions =
            let rest = replicate (most_transitions - length lines) clear_transition in
            omega (arith, length-append lines rest, length-replicate (most_transitions - length lines) clear_transition);
        outputs = λ l k.
            ⊎_elim
            (λ (h : length lines ≤ l). rw (made_clear n starts finals lines l h k) (length-replicate {A = OutputCode} most_outputs (record { 0 = 0 })))
            (λ (h : l < length lines). rw (made_at n starts finals lines l h) (sizes _ (place_among lines outside l h)))
            (le_or_lt (length lines) l);
        useful = set_long;
      }

-- lines in use that leave and enter the same states, read the same and write the same are the same: nothing else of them can differ
pub same_line : {n m : ℕ} {v w : Transition} → Used n v → Used m w → length v.output ≡ most_outputs → length w.output ≡ most_outputs
    → v.from ≡ w.from → v.to ≡ w.to → v.input.0 ≡ w.input.0 → written_by v ≡ written_by w → v ≡ w
same_line {v = v} {w} used used' size size' from to input written =
    λ i. record { from = from i; to = to i; input = record { 0 = input i }; count = count i; output = output i }
  where
    none : OutputCode
    none = record { 0 = 0 }

    count : v.count ≡ w.count
    count = sym (length_written v) ∙ ap length written ∙ length_written w

    -- the places below the count are written, those beyond hold 0
    place : (j : ℕ) → j < most_outputs → output_at v j ≡ output_at w j
    place j h =
        ⊎_elim
        (λ (k : v.count ≤ j). let e = used.beyond_zero j k h ∙ sym (used'.beyond_zero j (omega (arith, count)) h) in λ i. record { 0 = e i })
        (λ (k : j < v.count).
        sym (get_d_firsts v.count (output_at v) none j k) ∙ ap (λ codes. get_or codes j none) written
        ∙ get_d_firsts w.count (output_at w) none j (omega (arith, count)))
        (le_or_lt v.count j)

    output : v.output ≡ w.output
    output = ext_get_or none v.output w.output (size ∙ sym size') (λ j h. place j (omega (arith, size)))

-- ---- one line more

module _ (t : Transducer) (v : Transition) where
  -- behind the lines of t, which stay as they are
  pub appended_lines : lines_of (appended t v) ≡ lines_of t ++ (v ∷ [])
  appended_lines = made_lines t.states t.starts t.finals (lines_of t ++ (v ∷ []))

  one_more : length (lines_of t ++ (v ∷ [])) ≡ t.count + 1
  one_more = omega (arith, length-append (lines_of t) (v ∷ []), lines_long t)

  -- what holds of each of them and of v holds of all
  pub each_line : (P : Transition → Type 0) → ((l : ℕ) → l < t.count → P (at t l)) → P v → (w : Transition) → Among w (lines_of t ++ (v ∷ [])) → P w
  each_line P lines last w m =
      ⊎_elim
      (λ k. let n = among_numbered t k in subst P n.same (lines n.number n.below))
      (λ k. subst P (sym (Memᴰ.eq_of_singleton k)) last)
      (Memᴰ.append_cases (lines_of t) m)

  -- the rules are kept where there is room and v keeps them
  pub appended_valid : Valid t → t.count < most_transitions → Used t.states v → Valid (appended t v)
  appended_valid h room used =
      (made_valid t.states t.starts t.finals (lines_of t ++ (v ∷ []))).1
      (record {
        some_state = h.some_state;
        few_states = h.few_states;
        start_state = h.start_state;
        final_state = h.final_state;
        few_lines = omega (arith, one_more);
        used = each_line (Used t.states) h.used used;
      })

  pub appended_shaped : Shaped t → t.count < most_transitions → length v.output ≡ most_outputs → Shaped (appended t v)
  appended_shaped s room size =
      made_shaped t.states t.starts t.finals (lines_of t ++ (v ∷ [])) s.starts s.finals (omega (arith, one_more))
      (each_line (λ w. length w.output ≡ most_outputs) (λ l h. s.outputs l (omega arith)) size)
