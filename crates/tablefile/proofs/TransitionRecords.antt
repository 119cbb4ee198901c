-- Records of transitions, both ways: the records of transitions are read as these, and what is read as transitions are their records. Assumes nothing.
use mathlib.Core.Path.{◌≡◌, refl, sym, ap, ◌∙◌}
use mathlib.Core.List.{List, [], ◌∷◌, ◌++◌, flat_map, append_assoc}
use mathlib.Core.Logic.{⊎_elim}
use Prim.Native.Nat.{ℕ, zero, suc, ◌+◌, ◌≤◌, ◌<◌}
use native.Mathlib.Numerals.{add-one}
use native.Mathlib.Omega.{arith}
use lib.ListN.{length, get_or, drop, set, replicate, length-replicate, get_or-map, get_or-eq_default}
use lib.Seq.{ext_get_or, sets}
use Rattle.records.specs.Letters.{letter_l}
use Rattle.records.specs.Reading.{range, values_at, in_array, record_at}
use Rattle.records.specs.declared.reading.Record.{Record}
use Rattle.transducer.proofs.LineLaws.{get_d_firsts}
use Rattle.records.proofs.RangeLaws.{Each, each_made, values_length}
use Rattle.records.proofs.RecordTrip.{Fits, record_read, record_back}
use Rattle.transducer.specs.Limits.{most_outputs, most_code}
use Rattle.transducer.specs.Transition.{outside, output_at, firsts, written_by, bytes_of}
use Rattle.transducer.specs.Valid.{Used}
use Rattle.transducer.specs.declared.OutputCode.{OutputCode}
use Rattle.transducer.specs.declared.Transition.{Transition}
use Rattle.transducer.proofs.Bools.{le_or_lt}
use Rattle.transducer.proofs.SizeLaws.{length_firsts, length_bytes, length_written}
use Rattle.std.specs.Prelude.{None, Ok}
use Rattle.tablereader.specs.Outcome.{Outcome, outcome_for, ◌▸◌}
use Rattle.tablereader.specs.Record.{transition_ranges}
use Rattle.tablereader.specs.Transitions.{count_at, transition_record_of, code_of, transition_with, read_transitions_of}
use Rattle.tablereader.proofs.TransitionRecords.{no_code, transition_same, transition_used, values, few_values, codes, code_at}
use Rattle.tablereader.proofs.TakenLaws.{then_taken, taken_passes}
use Rattle.tablewriter.specs.File.{transition_bytes}
use Rattle.tablefile.proofs.Filled.{sets_more}

pub zero_code : (c : OutputCode) → c.0 ≡ 0 → c ≡ no_code
zero_code c e = λ i. record { 0 = e i }

-- the values of a transition's record
abbrev values_of : Transition → List ℕ
values_of v = v.from ∷ v.to ∷ v.input.0 ∷ v.count ∷ bytes_of (written_by v)

-- a transition in use, whose array has its length
pub record UsedIn (n : ℕ) (v : Transition) : Type 0 where
  pub used : Used n v
  pub size : length v.output ≡ most_outputs

module _ (n : ℕ) (v : Transition) (u : Used n v) where
  few_bytes : length (bytes_of (written_by v)) ≡ v.count
  few_bytes = length_bytes (written_by v) ∙ length_written v

  -- the byte at place j is the output code there, and 0 behind all of them
  byte_at : (j : ℕ) → j < most_outputs → get_or (bytes_of (written_by v)) j 0 ≡ (output_at v j).0
  byte_at j h =
      get_or-map (λ (c : OutputCode). c.0) (written_by v) j no_code
      ∙ ap (λ (c : OutputCode). c.0) (⊎_elim beyond inside (le_or_lt v.count j))
    where
      inside : j < v.count → get_or (written_by v) j no_code ≡ output_at v j
      inside k = get_d_firsts v.count (output_at v) no_code j k

      beyond : v.count ≤ j → get_or (written_by v) j no_code ≡ output_at v j
      beyond k =
          get_or-eq_default (written_by v) no_code (omega (arith, length_written v)) ∙ sym (zero_code (output_at v j) (u.beyond_zero j k h))

  -- the values fit their ranges
  values_fit : n ≤ 9999 → Each Fits (transition_ranges n v.count) (values_of v)
  values_fit m =
      let from = u.from_state in
      let to = u.to_state in
      let input = u.input_code in
      let few = u.few_outputs in (
        record { above = omega arith; below = omega arith; rises = omega arith; small = omega arith },
        (
          record { above = omega arith; below = omega arith; rises = omega arith; small = omega arith },
          (
            record { above = omega arith; below = input; rises = omega arith; small = omega arith },
            (
              record { above = omega arith; below = few; rises = omega arith; small = omega arith },
              each_made Fits v.count (range 1 most_code) (bytes_of (written_by v)) few_bytes (λ j h. code_fits j h),
            ),
          ),
        ),
      )
    where
      code_fits : (j : ℕ) → j < v.count → Fits (range 1 most_code) (get_or (bytes_of (written_by v)) j 0)
      code_fits j h =
          let few = u.few_outputs in
          let least = u.least_code j h in
          let largest = u.largest_code j h in
          rw (byte_at j (omega arith)) (record { above = least; below = largest; rises = omega arith; small = omega arith })

  -- and give the transition
  transition_given : length v.output ≡ most_outputs → transition_with (in_array (values_of v)) ≡ v
  unfolding transition_with
  transition_given size =
      let few = u.few_outputs in
      transition_same (values_of v) (omega (arith, few_bytes))
      ∙ (λ i. record { from = v.from; to = v.to; input = v.input; count = v.count; output = outputs i })
    where
      outputs : firsts most_outputs (code_of (values_of v)) ≡ v.output
      outputs =
          ext_get_or no_code (firsts most_outputs (code_of (values_of v))) v.output (length_firsts most_outputs (code_of (values_of v)) ∙ sym size)
          (λ j h. let inside : j < most_outputs = omega (arith, length_firsts most_outputs (code_of (values_of v))) in
          get_d_firsts most_outputs (code_of (values_of v)) no_code j inside ∙ (λ i. record { 0 = byte_at j inside i }))

module _ (text : List ℕ) (n : ℕ) where
  -- ---- one transition

  -- the record at a place gives v, and the rest follows
  record TransitionRead (at : ℕ) (v : Transition) (rest : List ℕ) : Type 0 where
    end : ℕ
    read : transition_record_of text at n ≡ record { fault = None; next = end; values = in_array (values_of v) }
    follows : drop end text ≡ rest

  transition_read : (at : ℕ) (v : Transition) (rest : List ℕ) → n ≤ 9999 → UsedIn n v → drop at text ≡ transition_bytes v ++ rest → TransitionRead at v rest
  unfolding transition_record_of transition_bytes values_at count_at
  transition_read at v rest m u e =
      let r = record_read text at letter_l (transition_ranges n v.count) (values_of v) rest (values_fit n v u.used m) e in
      let count : count_at text at ≡ v.count = ap (λ (l : List ℕ). get_or l 3 0) r.given in
      record { end = _; read = ap (λ (k : ℕ). record_at text at letter_l (transition_ranges n k)) count ∙ r.read; follows = r.follows }

  -- the values that the record at a place gives are those of the transition
  values_written : (at : ℕ) → 1 ≤ n → values_of (transition_with (values text at n)) ≡ values text at n
  unfolding transition_with values_at count_at
  values_written at some =
      let v = transition_with (values text at n) in
      let u = transition_used text at n some in
      let few = u.few_outputs in
      let size = few_bytes n v u in
      let items = replicate (count_at text at) (range 1 most_code) in
      let long : length (codes text at n) ≡ v.count = values_length text _ items ∙ length-replicate (count_at text at) (range 1 most_code) in
      let same : bytes_of (written_by v) ≡ codes text at n =
      ext_get_or 0 (bytes_of (written_by v)) (codes text at n) (size ∙ sym long)
      (λ j h. let inside : j < most_outputs = omega arith in byte_at n v u j inside ∙ code_at text at n j inside)
      in
      ap (λ (l : List ℕ). v.from ∷ v.to ∷ v.input.0 ∷ v.count ∷ l) same

  -- the record at a place is the one of the transition that it gives
  transition_back : (at : ℕ) → 1 ≤ n → (transition_record_of text at n).fault ≡ None
      → drop at text ≡ transition_bytes (transition_with (transition_record_of text at n).values) ++ drop (transition_record_of text at n).next text
  unfolding transition_record_of record_at transition_bytes
  transition_back at some e =
      rw (transition_same (values text at n) (few_values text at n), values_written at some)
      (record_back text at letter_l (transition_ranges n (count_at text at)) e).bytes

  -- ---- all transitions

  -- the records at a place give all of vs, and the rest follows
  pub record TransitionsRead (at rec i : ℕ) (l vs : List Transition) (rest : List ℕ) : Type 0 where
    pub end : ℕ
    pub read : read_transitions_of (length vs) text n at rec i (Ok tt) l ≡ record { outcome = Ok tt; next = end; transitions = sets l i vs }
    pub follows : drop end text ≡ rest

  transition_turn : (k at rec i end : ℕ) (l : List Transition) (v : Transition)
      → transition_record_of text at n ≡ record { fault = None; next = end; values = in_array (values_of v) } → transition_with (in_array (values_of v)) ≡ v
      → read_transitions_of (suc k) text n at rec i (Ok tt) l ≡ read_transitions_of k text n end (rec + 1) (suc i) (Ok tt) (set l i v)
  unfolding read_transitions_of
  transition_turn k at rec i end l v e w =
      ap (λ (r : Record). read_transitions_of k text n r.next (rec + 1) (i + 1) (Ok (tt {0}) ▸ outcome_for r.fault rec) (set l i (transition_with r.values))) e
      ∙ rw (w, add-one i)

  pub transitions_read : (at rec i : ℕ) (l vs : List Transition) (rest : List ℕ) → n ≤ 9999 → ((j : ℕ) → j < length vs → UsedIn n (get_or vs j outside))
      → drop at text ≡ flat_map transition_bytes vs ++ rest → TransitionsRead at rec i l vs rest
  unfolding read_transitions_of flat_map
  transitions_read at rec i l [] rest m u e = record { end = at; read = refl; follows = e }
  transitions_read at rec i l (v ∷ vs) rest m u e =
      let there = e ∙ append_assoc (transition_bytes v) (flat_map transition_bytes vs) rest in
      let one = transition_read at v (flat_map transition_bytes vs ++ rest) m (u 0 (omega arith)) there in
      let others = transitions_read one.end (rec + 1) (suc i) (set l i v) vs rest m (λ j h. u (suc j) (omega arith)) one.follows in
      record {
        end = others.end;
        read = transition_turn (length vs) at rec i one.end l v one.read (transition_given n v (u 0 (omega arith)).used (u 0 (omega arith)).size) ∙ others.read;
        follows = others.follows;
      }

  -- the k records at a place are those of a list of transitions, which are stored
  pub record TransitionsBack (k at rec i : ℕ) (outcome : Outcome) (l : List Transition) : Type 0 where
    pub list : List Transition
    pub size : length list ≡ k
    pub stored : (read_transitions_of k text n at rec i outcome l).transitions ≡ sets l i list
    pub taken : outcome ≡ Ok tt
    pub bytes : drop at text ≡ flat_map transition_bytes list ++ drop (read_transitions_of k text n at rec i outcome l).next text

  pub transitions_back : (k at rec i : ℕ) (outcome : Outcome) (l : List Transition) → 1 ≤ n → (read_transitions_of k text n at rec i outcome l).outcome ≡ Ok tt
      → TransitionsBack k at rec i outcome l
  unfolding read_transitions_of flat_map
  transitions_back zero at rec i outcome l h e = record { list = []; size = refl; stored = refl; taken = e; bytes = refl }
  transitions_back (suc k) at rec i outcome l h e =
      let r = transition_record_of text at n in
      let v = transition_with r.values in
      let others = transitions_back k r.next (rec + 1) (i + 1) (outcome ▸ outcome_for r.fault rec) (set l i v) h e in
      let both = then_taken outcome (outcome_for r.fault rec) tt others.taken in
      record {
        list = v ∷ others.list;
        size = ap suc others.size;
        stored = others.stored ∙ sets_more l i v others.list;
        taken = both.0;
        bytes =
            transition_back at h (taken_passes r.fault rec both.1) ∙ ap (λ (x : List ℕ). transition_bytes v ++ x) others.bytes
            ∙ sym (append_assoc (transition_bytes v) (flat_map transition_bytes others.list) _);
      }
