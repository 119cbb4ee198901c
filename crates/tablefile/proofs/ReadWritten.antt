-- Reading a written file gives the transducer that was written. Each part of the file is read as its part of the transducer, one behind the other, and
-- nothing follows the last; where something does, the file is refused with 6. Assumes nothing.
use mathlib.Core.Path.{◌≡◌, refl, sym, ap, ◌∙◌}
use mathlib.Core.Bool.{true}
use mathlib.Core.List.{List, [], ◌∷◌, ◌++◌, append-nil}
use Prim.Native.Nat.{ℕ, ◌+◌, ◌*◌, ◌-◌, ◌≤◌, ◌<◌}
use native.Mathlib.Omega.{arith}
use borrow.Author.Tests.{le-ltb}
use lib.ListN.{length, get_or, drop, length-drop}
use Rattle.records.specs.Letters.{letter_t, letter_s, letter_f}
use Rattle.records.specs.Reading.{filled}
use Rattle.transducer.proofs.LineLaws.{get_d_firsts}
use Rattle.records.proofs.RecordTrip.{RecordRead, record_read}
use Rattle.transducer.specs.Limits.{most_states, most_transitions}
use Rattle.transducer.specs.StateSet.{In, no_states}
use Rattle.transducer.specs.Transition.{outside, at, firsts}
use Rattle.transducer.specs.Blank.{clear_transition, blank_transducer}
use Rattle.transducer.specs.Valid.{Valid, Shaped}
use Rattle.transducer.specs.Accepted.{accepted_of}
use Rattle.transducer.specs.declared.StateSet.{StateSet}
use Rattle.transducer.specs.Lines.{keeping}
use Rattle.transducer.specs.declared.Transducer.{Transducer}
use Rattle.transducer.proofs.AcceptedLaws.{accepted_valid, made_again}
use Rattle.transducer.proofs.SizeLaws.{length_firsts}
use Rattle.tablereader.specs.Outcome.{outcome_for}
use Rattle.tablereader.specs.Record.{header_ranges, header_size, state_size}
use Rattle.tablereader.specs.Header.{counts_of, header_of}
use Rattle.tablereader.specs.States.{states_from}
use Rattle.tablereader.specs.Transitions.{transitions_from}
use Rattle.tablereader.specs.Reader.{end_fault_of, record_count, starts_of, finals_of, transitions_of, outcome_with, records_with, table_with, read_of}
use Rattle.tablereader.specs.declared.header.Header.{Header}
use Rattle.std.specs.Prelude.{None, Ok}
use Rattle.tablereader.proofs.TakenLaws.{end_follows}
use Rattle.tablewriter.specs.File.{states_of, size_of, state_bytes, transition_bytes_below, header_bytes, write_of}
use Rattle.tablewriter.proofs.FileLaws.{file_then}
use Rattle.transducer.proofs.LineLaws.{clear_same, made_keeping}
use Rattle.tablewriter.proofs.LengthLaws.{size_most}
use Rattle.tablefile.specs.RoundTrips.{taken_as, followed_at}
use Rattle.tablefile.proofs.Rising.{add_states, set_rising}
use Rattle.tablefile.proofs.Filled.{filled_firsts}
use Rattle.tablefile.proofs.StateRecords.{states_read}
use Rattle.tablefile.proofs.TransitionRecords.{UsedIn, transitions_read}

-- the transitions of t, stored from place 0, give its array
stored : (t : Transducer) → Valid t → Shaped t → filled clear_transition most_transitions (firsts t.count (at t)) ≡ t.transitions
stored t v s =
    filled_firsts outside clear_transition most_transitions t.count t.transitions s.transitions v.few_transitions
    (λ j h k. clear_same (at t j) (v.beyond_clear j h k) (s.outputs j k))

-- and each of them is in use
used : (t : Transducer) → Valid t → Shaped t → (j : ℕ) → j < length (firsts t.count (at t)) → UsedIn t.states (get_or (firsts t.count (at t)) j outside)
used t v s j h =
    let few = v.few_transitions in
    let inside : j < t.count = omega (arith, length_firsts t.count (at t)) in
    rw (get_d_firsts t.count (at t) outside j inside)
    (record { used = v.used j inside; size = s.outputs j (omega arith) })

-- the counts of t
abbrev counts : Transducer → Header
counts t = record { fault = None; states = t.states; starts = size_of t.starts; finals = size_of t.finals; transitions = t.count }

module _ (t : Transducer) (v : Valid t) (s : Shaped t) (text rest : List ℕ) (is : text ≡ write_of t ++ rest) where
  -- the parts of the file
  starts : List ℕ
  starts = state_bytes letter_s (states_of t.starts)

  finals : List ℕ
  finals = state_bytes letter_f (states_of t.finals)

  transitions : List ℕ
  transitions = transition_bytes_below t t.count

  header : RecordRead text 0 letter_t header_ranges (t.states ∷ size_of t.starts ∷ size_of t.finals ∷ t.count ∷ [])
      (starts ++ (finals ++ (transitions ++ rest)))
  unfolding header_bytes starts finals transitions
  header =
      let states = v.few_states in
      let lines = v.few_transitions in
      let some = size_most t.starts in
      let last = size_most t.finals in
      record_read text 0 letter_t header_ranges _ (starts ++ (finals ++ (transitions ++ rest))) (
        record { above = v.some_state; below = states; rises = omega arith; small = omega arith },
        (
          record { above = omega arith; below = some; rises = omega arith; small = omega arith },
          (
            record { above = omega arith; below = last; rises = omega arith; small = omega arith },
            (record { above = omega arith; below = lines; rises = omega arith; small = omega arith }, tt),
          ),
        ),
      )
      (is ∙ file_then t rest)

  header_same : header_of text ≡ counts t
  unfolding header_of
  header_same = ap counts_of header.read

  -- the records of a set of states give the set
  record SetRead (letter at rec : ℕ) (set : StateSet) (after : List ℕ) : Type 0 where
    read : states_from (size_of set) text letter t.states at rec ≡ record { outcome = Ok tt; set = set }
    follows : drop (at + state_size * size_of set) text ≡ after

  set_read : (letter at rec : ℕ) (set : StateSet) (after : List ℕ) → length set.member ≡ most_states → ((q : ℕ) → In set q → q < t.states)
      → drop at text ≡ state_bytes letter (states_of set) ++ after → SetRead letter at rec set after
  unfolding states_from size_of
  set_read letter at rec set after long below e =
      let few = v.few_states in
      let r = states_read text letter t.states at 0 rec no_states (states_of set) after (omega arith) (set_rising set t.states few below) e in
      record { read = rw (add_states set long) at r.read; follows = r.follows }

  starts_read : SetRead letter_s header_size 1 t.starts (finals ++ (transitions ++ rest))
  unfolding starts
  starts_read = set_read letter_s header_size 1 t.starts (finals ++ (transitions ++ rest)) s.starts v.start_state header.follows

  finals_read : SetRead letter_f (header_size + state_size * size_of t.starts) (1 + size_of t.starts) t.finals (transitions ++ rest)
  unfolding finals
  finals_read =
      set_read letter_f (header_size + state_size * size_of t.starts) (1 + size_of t.starts) t.finals (transitions ++ rest) s.finals
      v.final_state starts_read.follows

  -- the records of the transitions give them, and what is behind the file follows
  record AllRead (at rec : ℕ) : Type 0 where
    end : ℕ
    read : transitions_from t.count text t.states at rec ≡ record { outcome = Ok tt; next = end; transitions = t.transitions }
    follows : drop end text ≡ rest

  transitions_there : (place rec : ℕ) → drop place text ≡ transitions ++ rest → AllRead place rec
  unfolding transitions_from blank_transducer transitions transition_bytes_below
  transitions_there place rec e =
      let few = v.few_states in
      let list = firsts t.count (at t) in
      let r = transitions_read text t.states place rec 0 blank_transducer.transitions list rest (omega arith) (used t v s) e in
      record { end = r.end; read = rw (length_firsts t.count (at t), stored t v s) at r.read; follows = r.follows }

  all_read : AllRead (header_size + state_size * size_of t.starts + state_size * size_of t.finals) (1 + size_of t.starts + size_of t.finals)
  all_read = transitions_there _ _ finals_read.follows

  -- so many bytes are behind the last record
  left : length text - all_read.end ≡ length rest
  left = sym (length-drop all_read.end text) ∙ ap length all_read.follows

  -- the end alone decides
  outcome_end : outcome_with text (counts t) ≡ outcome_for (end_fault_of text all_read.end) (record_count (counts t))
  unfolding outcome_with starts_of finals_of transitions_of
  outcome_end = rw (starts_read.read, finals_read.read, all_read.read)

  -- the set that is kept is worked out anew
  table_same : table_with text (counts t) ≡ keeping t
  unfolding table_with records_with starts_of finals_of transitions_of keeping
  table_same = rw (starts_read.read, finals_read.read, all_read.read)

  text_read : length rest ≡ 0 → read_of text ≡ taken_as (keeping t)
  unfolding read_of end_fault_of
  text_read none = rw (header_same, outcome_end, table_same, le-ltb all_read.end (length text) (omega (arith, left)))

  text_followed : 1 ≤ length rest → read_of text ≡ followed_at (record_count (header_of text))
  unfolding read_of
  text_followed some = rw (header_same, outcome_end, end_follows text all_read.end (omega (arith, left)))

-- reading a written table gives that table
pub read_written : (t : Transducer) → accepted_of t ≡ true → Shaped t → read_of (write_of t) ≡ taken_as t
read_written t v s =
    rw (← made_keeping t (accepted_valid t v) s, made_again t v s) at (text_read t (accepted_valid t v) s (write_of t) [] (sym (append-nil (write_of t))) refl)

-- with bytes behind it it is refused with 6, at the count of its records
pub read_followed : (t : Transducer) → accepted_of t ≡ true → Shaped t → (rest : List ℕ) → 1 ≤ length rest
    → read_of (write_of t ++ rest) ≡ followed_at (record_count (header_of (write_of t)))
read_followed t v s rest some =
    let valid = accepted_valid t v in
    let alone = header_same t valid s (write_of t) [] (sym (append-nil (write_of t))) in
    let with_rest = header_same t valid s (write_of t ++ rest) rest refl in
    text_followed t valid s (write_of t ++ rest) rest refl some ∙ ap (λ h. followed_at (record_count h)) (with_rest ∙ sym alone)
