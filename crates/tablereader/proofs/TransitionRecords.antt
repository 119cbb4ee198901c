-- The records of transitions: a turn of their reading, and that what is read keeps the rules of a transition, also where a record is refused.
-- Assumes nothing.
use mathlib.Core.Path.{◌≡◌, refl, sym, ap, ◌∙◌}
use mathlib.Core.List.{List}
use Prim.Native.Nat.{ℕ, zero, suc, ◌+◌, ◌-◌, ◌*◌, ◌≤◌, ◌<◌}
use native.Mathlib.Nat.{add-zero, zero-add, not-suc-le-zero}
use native.Mathlib.Numerals.{add-one}
use native.Mathlib.Omega.{arith}
use lib.ListN.{length, get_or, take, drop, set, replicate, length-set, length-replicate, get_or-replicate, get_or-eq_default}
use lib.Seq.{take-suc-set, get_or-drop}
use Rattle.std.proofs.lemmas.List.{take-replicate}
use Rattle.transducer.specs.Limits.{most_states, most_transitions, most_outputs, most_code}
use Rattle.transducer.specs.Transition.{outside, firsts}
use Rattle.transducer.specs.Blank.{clear_transition, blank_transducer}
use Rattle.transducer.specs.Valid.{Used, Clear}
use Rattle.transducer.specs.declared.OutputCode.{OutputCode}
use Rattle.transducer.specs.declared.Transition.{Transition}
use Rattle.transducer.proofs.LineLaws.{clear_clear}
use Rattle.records.specs.Field.{columns}
use Rattle.records.specs.Letters.{most_fields}
use Rattle.records.specs.Reading.{range, number_at, values_at, in_array, record_at}
use Rattle.records.specs.declared.reading.Number.{Number}
use Rattle.records.specs.declared.reading.Range.{Range}
use Rattle.records.specs.declared.reading.Record.{Record}
use Rattle.records.proofs.FilledLaws.{filled_at}
use Rattle.transducer.proofs.LineLaws.{get_d_firsts}
use Rattle.records.proofs.RangeLaws.{Within, Proper, proper_same, each_same, number_within, values_length, values_within, values_most}
use Rattle.std.specs.Prelude.{Ok}
use Rattle.tablereader.specs.Outcome.{Outcome, outcome_for, ◌▸◌}
use Rattle.tablereader.specs.Record.{transition_ranges, transition_size}
use Rattle.tablereader.specs.Transitions.{count_at, transition_record_of, code_of, transition_with, Small, read_transitions_of, transitions_from}
use Rattle.tablereader.proofs.Stores.{after_set}

-- the code of a place that is not in use
abbrev pub no_code : OutputCode
no_code = record { 0 = 0 }

-- ---- a turn of the reading

module _ (text : List ℕ) (n at rec i : ℕ) (outcome : Outcome) (transitions : List Transition) where
  pub transition_turn : (k k' rec' : ℕ) (r : Record) (here after : Outcome) (v : Transition) → k ≡ suc k' → rec' ≡ rec + 1
      → r ≡ transition_record_of text at n → here ≡ outcome_for r.fault rec → after ≡ outcome ▸ here → v ≡ transition_with r.values
      → read_transitions_of k text n at rec i outcome transitions ≡ read_transitions_of k' text n r.next rec' (i + 1) after (set transitions i v)
  unfolding read_transitions_of
  transition_turn k k' rec' r here after v left number e o a w = rw (left, number, a, o, w, e)

  pub transitions_done : (k : ℕ) → k ≤ 0
      → read_transitions_of k text n at rec i outcome transitions ≡ record { outcome = outcome; next = at; transitions = transitions }
  unfolding read_transitions_of
  transitions_done zero h = refl
  transitions_done (suc k) h = absurd (not-suc-le-zero h)

-- ---- the ranges of a record

-- the first ranges of the array, as many as the count asks for
pub ranges_taken : (text : List ℕ) (at n : ℕ) (r : Number) → r ≡ number_at text (at + 1 + 3 * columns) (range 0 most_outputs)
    → take (4 + r.value) (transition_ranges n most_outputs) ≡ transition_ranges n (count_at text at)
unfolding count_at
ranges_taken text at n r e =
    let place : at + 1 + 3 * columns ≡ at + 1 + columns + columns + columns = omega arith in
    let few = (number_within text (at + 1 + 3 * columns) (range 0 most_outputs) r e (omega arith)).1 in
    let count : 4 + r.value ≡ suc (suc (suc (suc r.value))) = omega arith in
    rw (count, take-replicate r.value most_outputs (range 1 most_code) few, e, place)

-- ---- a transition that was read

-- one more output code is stored
pub output_turn : (values : List ℕ) (output : List OutputCode) (j : ℕ) → j < length output → take j output ≡ firsts j (code_of values)
    → take (j + 1) (set output j (record { 0 = get_or values (4 + j) 0 })) ≡ firsts (j + 1) (code_of values)
unfolding firsts
output_turn values output j h e = rw (add-one, ← get_or-drop 4 values j 0) (take-suc-set output j (code_of values j) h ∙ rw e)

-- the values in their array and the values alone give the same transition
pub transition_same : (values : List ℕ) → length values ≤ most_fields → transition_with (in_array values) ≡ transition_with values
unfolding transition_with
transition_same values few = λ i. record {
  from = same 0 i;
  to = same 1 i;
  input = record { 0 = same 2 i };
  count = same 3 i;
  output = firsts most_outputs (λ j. record { 0 = code j i });
}
  where
    same : (j : ℕ) → get_or (in_array values) j 0 ≡ get_or values j 0
    same = filled_at 0 most_fields values few

    code : (j : ℕ) → get_or (drop 4 (in_array values)) j 0 ≡ get_or (drop 4 values) j 0
    code j = get_or-drop 4 (in_array values) j 0 ∙ same (4 + j) ∙ sym (get_or-drop 4 values j 0)

module _ (text : List ℕ) (at n : ℕ) where
  -- the ranges of the record, and its values
  abbrev pub ranges : List Range
  ranges = transition_ranges n (count_at text at)

  abbrev pub values : List ℕ
  values = values_at text (at + 1) ranges

  pub few_codes : count_at text at ≤ most_outputs
  unfolding count_at
  few_codes = (number_within text (at + 1 + columns + columns + columns) (range 0 most_outputs) _ refl (omega arith)).1

  pub few_values : length values ≤ most_fields
  few_values = rw (values_length text (at + 1) ranges, length-replicate) (omega (arith, few_codes))

  pub transition_next : (r : Record) → r ≡ transition_record_of text at n → r.next ≤ at + transition_size
  unfolding transition_record_of record_at
  transition_next r e = rw (e, length-replicate) (omega (arith, few_codes))

  -- the transition that the record gives
  pub transition_values : transition_with (transition_record_of text at n).values ≡ transition_with values
  unfolding transition_record_of record_at
  transition_values = transition_same values few_values

  -- each range has a number, and none above m
  proper : (m : ℕ) → n - 1 ≤ m → most_code ≤ m → Proper m ranges
  proper m h k =
      (omega arith, h, (omega arith, h, (omega arith, k, (omega arith, omega arith, proper_same m (count_at text at) (range 1 most_code) (omega arith) k))))

  pub transition_small : n ≤ most_states → (r : Record) → r ≡ transition_record_of text at n → Small r.values
  unfolding transition_record_of record_at
  transition_small few r e =
      record {
        small =
            λ j. rw (e, filled_at 0 most_fields values few_values j)
            (values_most text most_code (at + 1) ranges (proper most_code (omega arith) (omega arith)) j);
      }

  -- the output codes among the values
  abbrev pub codes : List ℕ
  codes = values_at text (at + 1 + columns + columns + columns + columns) (replicate (count_at text at) (range 1 most_code))

  pub code_at : (j : ℕ) → j < most_outputs → (get_or (transition_with values).output j no_code).0 ≡ get_or codes j 0
  unfolding transition_with values_at
  code_at j h = ap (λ (c : OutputCode). c.0) (get_d_firsts most_outputs (code_of values) no_code j h)

  code_beyond : (j : ℕ) → count_at text at ≤ j → get_or codes j 0 ≡ 0
  code_beyond j h = get_or-eq_default codes 0 (rw (values_length, length-replicate) h)

  -- so a transition that is read is one in use
  pub transition_used : 1 ≤ n → Used n (transition_with values)
  unfolding transition_with values_at count_at
  transition_used some =
      let w = values_within text (n + most_code) (at + 1) ranges (proper (n + most_code) (omega arith) (omega arith)) in
      let few = w.1.1.1.0.1 in
      let from = w.0.1 in
      let to = w.1.0.1 in
      let in_code = each_same Within (count_at text at) (range 1 most_code) codes w.1.1.1.1 in
      record {
        from_state = omega arith;
        to_state = omega arith;
        input_code = w.1.1.0.1;
        few_outputs = few;
        least_code = λ j h. rw (code_at j (omega arith)) (in_code j h).0;
        largest_code = λ j h. rw (code_at j (omega arith)) (in_code j h).1;
        beyond_zero = λ j h k. code_at j k ∙ code_beyond j h;
      }

-- ---- all transitions

-- of 256 transitions the first i are in use among n states, and the others are not in use
pub record Placed (n i : ℕ) (l : List Transition) : Type 0 where
  pub size : length l ≡ most_transitions
  pub used : (j : ℕ) → j < i → Used n (get_or l j outside)
  pub clear : (j : ℕ) → i ≤ j → j < most_transitions → Clear (get_or l j outside)

module _ (n i : ℕ) (l : List Transition) (p : Placed n i l) (v : Transition) (inside : i < most_transitions) where
  placed_more : Used n v → Placed n (i + 1) (set l i v)
  placed_more u =
      record {
        size = length-set l i v ∙ p.size;
        used = λ j h. by (Used n) j (λ e. u) (λ e. p.used j (omega arith));
        clear = λ j h k. by Clear j (λ e. absurd (omega arith)) (λ e. p.clear j (omega arith) k);
      }
    where
      by : (P : Transition → Type 0) (j : ℕ) → (j ≡ i → P v) → ((j ≡ i → ⊥) → P (get_or l j outside)) → P (get_or (set l i v) j outside)
      by P j = after_set P l i j v outside (omega (arith, p.size))

transitions_placed : (k : ℕ) (text : List ℕ) (n at rec i : ℕ) (outcome : Outcome) (l : List Transition) → 1 ≤ n → i + k ≤ most_transitions → Placed n i l
    → Placed n (i + k) (read_transitions_of k text n at rec i outcome l).transitions
unfolding read_transitions_of
transitions_placed zero text n at rec i outcome l h few p = rw add-zero p
transitions_placed (suc k) text n at rec i outcome l h few p =
    let next : i + 1 + k ≡ i + suc k = omega arith in
    rw (← next)
    (transitions_placed k text n _ _ (i + 1) _ _ h (omega arith) (placed_more n i l p _ (omega arith) (rw (transition_values text at n) (transition_used text at n h))))

blank_placed : (n : ℕ) → Placed n 0 blank_transducer.transitions
unfolding blank_transducer
blank_placed n =
    record {
      size = length-replicate most_transitions clear_transition;
      used = λ j h. absurd (omega arith);
      clear = λ j h k. rw (place j k) clear_clear;
    }
  where
    place : (j : ℕ) → j < most_transitions → get_or (replicate most_transitions clear_transition) j outside ≡ clear_transition
    place j k = get_or-replicate most_transitions j clear_transition outside k

pub transitions_from_placed : (count : ℕ) (text : List ℕ) (n at first : ℕ) → 1 ≤ n → count ≤ most_transitions
    → Placed n count (transitions_from count text n at first).transitions
unfolding transitions_from
transitions_from_placed count text n at first h few =
    rw zero-add at (transitions_placed count text n at first 0 (Ok tt) blank_transducer.transitions h (omega arith) (blank_placed n))
