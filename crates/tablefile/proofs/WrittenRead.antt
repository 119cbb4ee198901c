-- Writing what was read of a file that was taken gives the file's bytes. Each record that was taken is the one that is written of what it gave, and
-- nothing follows the last. Assumes nothing.
use mathlib.Core.Path.{◌≡◌, refl, sym, ap, ◌∙◌}
use mathlib.Core.List.{List, [], ◌∷◌, ◌++◌, append-nil}
use Prim.Native.Nat.{ℕ, ◌+◌, ◌*◌}
use native.Mathlib.Omega.{arith}
use lib.ListN.{length, drop, drop_of_length-le}
use Rattle.records.specs.Field.{columns}
use Rattle.records.specs.Letters.{letter_t, letter_s, letter_f}
use Rattle.records.specs.Record.{record_bytes}
use Rattle.records.specs.Reading.{values_at, record_at}
use Rattle.records.proofs.RecordTrip.{record_back}
use Rattle.transducer.specs.Limits.{most_transitions}
use Rattle.transducer.specs.StateSet.{no_states}
use Rattle.transducer.specs.Transition.{outside, at, firsts}
use Rattle.transducer.specs.Blank.{clear_transition, blank_transducer}
use Rattle.transducer.specs.declared.StateSet.{StateSet}
use Rattle.transducer.specs.Lines.{keeping}
use Rattle.transducer.specs.declared.Transducer.{Transducer}
use Rattle.tablereader.specs.Record.{header_ranges, header_size, state_size}
use Rattle.tablereader.specs.Outcome.{number_of, table_of_reading}
use Rattle.tablereader.specs.Header.{Counted, header_of}
use Rattle.tablereader.specs.States.{states_from}
use Rattle.tablereader.specs.Transitions.{transitions_from}
use Rattle.tablereader.specs.Reader.{end_fault_of, starts_of, finals_of, transitions_of, outcome_with, records_with, table_with, read_of}
use Rattle.tablereader.specs.declared.header.Header.{Header}
use Rattle.std.specs.Prelude.{None, Ok}
use Rattle.tablereader.proofs.HeaderRecord.{counted}
use Rattle.tablereader.proofs.Outcomes.{taken_number}
use Rattle.tablereader.proofs.TakenLaws.{then_taken, end_passes, Passed, taken_passed}
use Rattle.tablewriter.specs.File.{states_of, size_of, state_bytes, transition_bytes_below, header_bytes, write_of}
use Rattle.tablewriter.proofs.FileLaws.{file_then}
use Rattle.tablefile.specs.RoundTrips.{taken_as}
use Rattle.tablefile.proofs.Rising.{added_states}
use Rattle.tablefile.proofs.Filled.{firsts_filled}
use Rattle.tablefile.proofs.StateRecords.{states_back}
use Rattle.tablefile.proofs.TransitionRecords.{transitions_back}

-- where the end passes its check nothing follows
end_back : (text : List ℕ) (at : ℕ) → end_fault_of text at ≡ None → drop at text ≡ []
end_back text at e = drop_of_length-le text (end_passes text at e)

-- the bytes of the record with the counts of h
abbrev bytes_of : Header → List ℕ
bytes_of h = record_bytes columns letter_t (h.states ∷ h.starts ∷ h.finals ∷ h.transitions ∷ [])

header_back : (text : List ℕ) → (header_of text).fault ≡ None → text ≡ bytes_of (header_of text) ++ drop header_size text
unfolding header_of record_at values_at
header_back text e = (record_back text 0 letter_t header_ranges e).bytes

module _ (text : List ℕ) (h : Header) (c : Counted h) where
  -- the records that gave a set are the ones that are written of it, and are as many
  record SetBack (letter k place : ℕ) (set : StateSet) : Type 0 where
    size : size_of set ≡ k
    bytes : drop place text ≡ state_bytes letter (states_of set) ++ drop (place + state_size * k) text

  set_back : (letter k place rec : ℕ) → (states_from k text letter h.states place rec).outcome ≡ Ok tt
      → SetBack letter k place (states_from k text letter h.states place rec).set
  unfolding states_from size_of
  set_back letter k place rec e =
      let b = states_back text letter h.states k place 0 rec (Ok tt) no_states c.some_state e in
      let same = added_states h.states b.states c.few_states b.rising in
      rw b.set (record { size = ap length same ∙ b.size; bytes = rw same b.bytes })

  -- the records that gave the transitions are the ones that are written of them
  transitions_same : (t : Transducer) (place rec : ℕ) → t.count ≡ h.transitions → t.transitions ≡ (transitions_from h.transitions text h.states place rec).transitions
      → (transitions_from h.transitions text h.states place rec).outcome ≡ Ok tt
      → drop place text ≡ transition_bytes_below t t.count ++ drop (transitions_from h.transitions text h.states place rec).next text
  unfolding transitions_from blank_transducer transition_bytes_below
  transitions_same t place rec k e o =
      let few = c.few_transitions in
      let b = transitions_back text h.states h.transitions place rec 0 (Ok tt) blank_transducer.transitions c.some_state o in
      let same : firsts t.count (at t) ≡ b.list =
      rw (k, e, b.stored) (rw b.size at (firsts_filled outside clear_transition most_transitions b.list (omega (arith, b.size))))
      in
      rw same b.bytes

  starts_back : Passed text h → SetBack letter_s h.starts header_size (table_with text h).starts
  unfolding table_with records_with starts_of keeping
  starts_back p = set_back letter_s h.starts header_size 1 p.starts

  finals_back : Passed text h → SetBack letter_f h.finals (header_size + state_size * h.starts) (table_with text h).finals
  unfolding table_with records_with finals_of keeping
  finals_back p = set_back letter_f h.finals (header_size + state_size * h.starts) (1 + h.starts) p.finals

  all_back : Passed text h
      → drop (header_size + state_size * h.starts + state_size * h.finals) text ≡ transition_bytes_below (table_with text h) (table_with text h).count ++ []
  unfolding table_with records_with transitions_of keeping
  all_back p =
      rw (← end_back text (transitions_of text h).next p.end)
      (transitions_same (table_with text h) _ (1 + h.starts + h.finals) refl refl p.transitions)

  -- the records that were taken, one behind the other, are the file
  all_written : (t : Transducer) → t.states ≡ h.states → t.count ≡ h.transitions → SetBack letter_s h.starts header_size t.starts
      → SetBack letter_f h.finals (header_size + state_size * h.starts) t.finals
      → drop (header_size + state_size * h.starts + state_size * h.finals) text ≡ transition_bytes_below t t.count ++ []
      → text ≡ bytes_of h ++ drop header_size text → write_of t ≡ text
  unfolding header_bytes
  all_written t n k s f l e =
      let header : bytes_of h ≡ header_bytes t = rw (n, k, s.size, f.size) in
      sym (e ∙ rw (header, s.bytes, f.bytes, l) (sym (file_then t []) ∙ append-nil (write_of t)))

  table_written : Passed text h → text ≡ bytes_of h ++ drop header_size text → write_of (table_with text h) ≡ text
  unfolding table_with records_with keeping
  table_written p e = all_written (table_with text h) refl refl (starts_back p) (finals_back p) (all_back p) e

-- writing a read file gives its bytes
taken_written : (f : List ℕ) (t : Transducer) → read_of f ≡ taken_as t → write_of t ≡ f
unfolding read_of
taken_written f t e =
    let h = header_of f in
    let c = counted f h refl in
    let both = then_taken (outcome_with f h) (Ok (table_with f h)) t e in
    let p = taken_passed f h both.0 in
    let same : table_with f h ≡ t = cc in
    rw same at (table_written f h c p (header_back f p.header))

pub written_read : (f : List ℕ) → number_of (read_of f) ≡ 0 → write_of (table_of_reading (read_of f)) ≡ f
written_read f e = let taken = taken_number (read_of f) e in rw taken.1 (taken_written f taken.0 taken.1)
