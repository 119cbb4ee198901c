-- Bytes behind a text that is longer than the longest file do not count: its records lie within it, and are read alike where it goes on. Assumes nothing.
use mathlib.Core.Path.{◌≡◌, refl, ap}
use mathlib.Core.List.{List, ◌++◌}
use Prim.Native.Nat.{ℕ, zero, suc, ◌+◌, ◌*◌, ◌≤◌, ◌<◌}
use native.Mathlib.Omega.{arith}
use lib.ListN.{length, length-append, length-replicate}
use Rattle.transducer.specs.Limits.{most_outputs, most_code}
use Rattle.transducer.specs.Blank.{blank_transducer}
use Rattle.transducer.specs.StateSet.{no_states}
use Rattle.transducer.specs.declared.StateSet.{StateSet}
use Rattle.transducer.specs.declared.Transition.{Transition}
use Rattle.records.specs.Field.{columns}
use Rattle.records.specs.Letters.{letter_t, letter_s, letter_f, letter_l, most_bytes}
use Rattle.records.specs.Reading.{range}
use Rattle.records.specs.declared.reading.Number.{Number}
use Rattle.records.proofs.Behind.{number_behind, record_behind}
use Rattle.std.specs.Prelude.{Ok}
use Rattle.tablereader.specs.Outcome.{Outcome}
use Rattle.tablereader.specs.Record.{header_ranges, state_ranges, header_size, state_size, transition_size}
use Rattle.tablereader.specs.Header.{Counted, counts_of, header_of}
use Rattle.tablereader.specs.States.{state_record_of, read_states_of, states_from}
use Rattle.tablereader.specs.Transitions.{count_at, transition_record_of, read_transitions_of, transitions_from}
use Rattle.tablereader.specs.Reader.{starts_of, finals_of, transitions_of, outcome_with, records_with, table_with, read_of}
use Rattle.tablereader.specs.declared.header.Header.{Header}
use Rattle.tablereader.proofs.HeaderRecord.{counted}
use Rattle.tablereader.proofs.TransitionRecords.{ranges, few_codes, transition_next}
use Rattle.tablereader.proofs.TakenLaws.{end_follows}
use Rattle.tablereader.proofs.Reach.{next_at_most}

module _ (text rest : List ℕ) where
  states_behind : (k letter n at low rec : ℕ) (outcome : Outcome) (s : StateSet) → at + state_size * k ≤ length text
      → read_states_of k (text ++ rest) letter n at low rec outcome s ≡ read_states_of k text letter n at low rec outcome s
  unfolding read_states_of state_record_of
  states_behind zero letter n at low rec outcome s h = refl
  states_behind (suc k) letter n at low rec outcome s h =
      rw (record_behind text rest at letter (state_ranges n low) (omega arith)) (states_behind k letter n (at + state_size) _ (rec + 1) _ _ (omega arith))

  set_behind : (count letter n at first : ℕ) → at + state_size * count ≤ length text
      → states_from count (text ++ rest) letter n at first ≡ states_from count text letter n at first
  unfolding states_from
  set_behind count letter n at first h = states_behind count letter n at 0 first (Ok tt) no_states h

  count_behind : (at : ℕ) → at + transition_size ≤ length text → count_at (text ++ rest) at ≡ count_at text at
  unfolding count_at
  count_behind at h =
      ap (λ (r : Number). r.value) (number_behind text rest (at + 1 + columns + columns + columns) (range 0 most_outputs) (omega arith))

  transition_behind : (at n : ℕ) → at + transition_size ≤ length text → transition_record_of (text ++ rest) at n ≡ transition_record_of text at n
  unfolding transition_record_of
  transition_behind at n h =
      rw (count_behind at h)
      (record_behind text rest at letter_l (ranges text at n) (omega (arith, few_codes text at n, length-replicate (count_at text at) (range 1 most_code))))

  transitions_behind : (k n at rec i : ℕ) (outcome : Outcome) (l : List Transition) → at + transition_size * k ≤ length text
      → read_transitions_of k (text ++ rest) n at rec i outcome l ≡ read_transitions_of k text n at rec i outcome l
  unfolding read_transitions_of
  transitions_behind zero n at rec i outcome l h = refl
  transitions_behind (suc k) n at rec i outcome l h =
      let one = transition_record_of text at n in
      rw (transition_behind at n (omega arith))
      (transitions_behind k n one.next (rec + 1) (i + 1) _ _ (omega (arith, transition_next text at n one refl)))

  header_behind : header_size ≤ length text → header_of (text ++ rest) ≡ header_of text
  unfolding header_of
  header_behind h = ap counts_of (record_behind text rest 0 letter_t header_ranges h)

  module _ (long : most_bytes < length text) (h : Header) (c : Counted h) where
    starts_same : starts_of (text ++ rest) h ≡ starts_of text h
    unfolding starts_of
    starts_same = set_behind h.starts letter_s h.states header_size 1 (omega (arith, c.few_starts))

    finals_same : finals_of (text ++ rest) h ≡ finals_of text h
    unfolding finals_of
    finals_same =
        set_behind h.finals letter_f h.states (header_size + state_size * h.starts) (1 + h.starts) (omega (arith, c.few_starts, c.few_finals))

    transitions_same : transitions_of (text ++ rest) h ≡ transitions_of text h
    unfolding transitions_of transitions_from
    transitions_same =
        transitions_behind h.transitions h.states (header_size + state_size * h.starts + state_size * h.finals) (1 + h.starts + h.finals) 0 (Ok tt)
        blank_transducer.transitions (omega (arith, c.few_starts, c.few_finals, c.few_transitions))

    table_same : table_with (text ++ rest) h ≡ table_with text h
    unfolding table_with records_with
    table_same = rw (starts_same, finals_same, transitions_same)

    outcome_same : (transitions_of text h).next ≤ most_bytes → outcome_with (text ++ rest) h ≡ outcome_with text h
    unfolding outcome_with
    outcome_same low =
        let next = (transitions_of text h).next in
        rw (
          starts_same,
          finals_same,
          transitions_same,
          end_follows (text ++ rest) next (omega (arith, length-append text rest)),
          end_follows text next (omega arith),
        )

pub behind : (text rest : List ℕ) → most_bytes < length text → read_of (text ++ rest) ≡ read_of text
unfolding read_of
behind text rest long =
    let h = header_of text in
    let c = counted text h refl in
    rw (header_behind text rest (omega arith), outcome_same text rest long h c (next_at_most text), table_same text rest long h c)
