-- Facts of what the reader gives, whatever the file is: the arrays of the table have their lengths; the record of a refusal is at most the number of
-- records that a file can have; and the refusal is one of a file. Assumes nothing.
use mathlib.Core.Path.{◌≡◌, refl, ◌∙◌}
use mathlib.Core.Bool.{Bool, true, false, cond}
use mathlib.Core.List.{List}
use Prim.Native.Nat.{ℕ, zero, suc, ◌+◌, ◌≤◌, ◌<◌}
use native.Mathlib.Omega.{arith}
use lib.Dec.{ltb}
use lib.ListN.{length, get_or, length-set}
use Rattle.transducer.specs.Limits.{most_transitions, most_outputs}
use Rattle.std.specs.Prelude.{Option, None, Some, Ok, Err}
use Rattle.transducer.specs.Refusals.{bytes_follow}
use Rattle.transducer.specs.declared.refusals.Refusal.{Refusal}
use Rattle.transducer.specs.declared.refusals.Refusal.TheVariants.{BytesFollow}
use Rattle.transducer.specs.Transition.{outside}
use Rattle.transducer.specs.Blank.{blank_transducer}
use Rattle.transducer.specs.Valid.{Shaped}
use Rattle.transducer.specs.Lines.{lines_of, keeping}
use Rattle.transducer.specs.declared.StateSet.{StateSet}
use Rattle.transducer.specs.declared.Transition.{Transition}
use Rattle.transducer.proofs.SizeLaws.{length_firsts}
use Rattle.transducer.proofs.LineLaws.{set_long}
use Rattle.records.specs.Letters.{letter_t, letter_s, letter_f, letter_l}
use Rattle.records.specs.Reading.{record_at}
use Rattle.records.proofs.FaultLaws.{OfFile, record_of_file}
use Rattle.tablereader.specs.Outcome.{Outcome, number_of, record_of, table_of_reading, outcome_for, ◌▸◌}
use Rattle.tablereader.specs.Record.{most_records, header_ranges, state_ranges, transition_ranges}
use Rattle.tablereader.specs.Header.{Counted, header_of}
use Rattle.tablereader.specs.States.{state_record_of, read_states_of, states_from}
use Rattle.tablereader.specs.Transitions.{count_at, transition_record_of, transition_with, read_transitions_of, transitions_from}
use Rattle.tablereader.specs.Reader.{end_fault_of, record_count, starts_of, finals_of, transitions_of, outcome_with, records_with, table_with, read_of}
use Rattle.tablereader.specs.declared.header.Header.{Header}
use Rattle.tablereader.proofs.Stores.{after_set}
use Rattle.tablereader.proofs.HeaderRecord.{counted}
use Rattle.tablereader.proofs.StateRecords.{states_from_below}
use Rattle.transducer.proofs.BlankLaws.{blank_shaped}

-- ---- the arrays

-- an array of transitions and their outputs have their lengths
record Sized (l : List Transition) : Type 0 where
  size : length l ≡ most_transitions
  outputs : (j : ℕ) → j < most_transitions → length (get_or l j outside).output ≡ most_outputs

read_long : (values : List ℕ) → length (transition_with values).output ≡ most_outputs
unfolding transition_with
read_long values = length_firsts most_outputs _

blank_sized : Sized blank_transducer.transitions
blank_sized = record { size = blank_shaped.transitions; outputs = blank_shaped.outputs }

transitions_sized : (k : ℕ) (text : List ℕ) (n at rec i : ℕ) (outcome : Outcome) (l : List Transition) → i + k ≤ most_transitions → Sized l
    → Sized (read_transitions_of k text n at rec i outcome l).transitions
unfolding read_transitions_of
transitions_sized zero text n at rec i outcome l h s = s
transitions_sized (suc k) text n at rec i outcome l h s =
    transitions_sized k text n _ _ (i + 1) _ _ (omega arith)
    (record {
      size = length-set l i _ ∙ s.size;
      outputs = λ j low. after_set (λ v. length v.output ≡ most_outputs) l i j _ outside (omega (arith, s.size))
          (λ same. read_long _)
          (λ other. s.outputs j low);
    })

table_shaped : (text : List ℕ) (h : Header) → Counted h → Shaped (table_with text h)
unfolding table_with records_with starts_of finals_of transitions_of transitions_from keeping
table_shaped text h c =
    let lines = transitions_sized h.transitions text h.states _ _ 0 _ _ (omega (arith, c.few_transitions)) blank_sized in
    record {
      starts = (states_from_below h.starts text letter_s h.states _ _ c.some_state).size;
      finals = (states_from_below h.finals text letter_f h.states _ _ c.some_state).size;
      transitions = lines.size;
      outputs = lines.outputs;
      useful = set_long h.states (starts_of text h).set (finals_of text h).set (lines_of (records_with text h));
    }

pub read_shaped : (text : List ℕ) → Shaped (table_of_reading (read_of text))
unfolding read_of
read_shaped text = go (outcome_with text (header_of text))
  where
    go : (o : Outcome) → Shaped (table_of_reading (o ▸ Ok (table_with text (header_of text))))
    go (Ok passed) = table_shaped text (header_of text) (counted text (header_of text) refl)
    go (Err r) = blank_shaped

-- ---- the refusals

-- an outcome with no record beyond m, and a refusal of a file
record Low (m : ℕ) (o : Outcome) : Type 0 where
  at_record : record_of o ≤ m
  of_file : number_of o ≤ bytes_follow

module _ {m : ℕ} where
  passed_low : Low m (Ok tt)
  passed_low = record { at_record = omega arith; of_file = omega arith }

  outcome_low : (fault : Option Refusal) (rec : ℕ) → OfFile fault → rec ≤ m → Low m (outcome_for fault rec)
  outcome_low None rec f h = passed_low
  outcome_low (Some refusal) rec f h = record { at_record = h; of_file = f }

  then_low : (a b : Outcome) → Low m a → Low m b → Low m (a ▸ b)
  then_low (Ok passed) b h k = k
  then_low (Err r) b h k = record { at_record = h.at_record; of_file = h.of_file }

  states_low : (k : ℕ) (text : List ℕ) (letter n at low rec : ℕ) (outcome : Outcome) (s : StateSet) → rec + k ≤ m → Low m outcome
      → Low m (read_states_of k text letter n at low rec outcome s).outcome
  unfolding read_states_of state_record_of record_at
  states_low zero text letter n at low rec outcome s h o = o
  states_low (suc k) text letter n at low rec outcome s h o =
      states_low k text letter n _ _ (rec + 1) _ _ (omega arith) (then_low _ _ o (outcome_low _ rec (record_of_file text at letter (state_ranges n low)) (omega arith)))

  transitions_low : (k : ℕ) (text : List ℕ) (n at rec i : ℕ) (outcome : Outcome) (l : List Transition) → rec + k ≤ m → Low m outcome
      → Low m (read_transitions_of k text n at rec i outcome l).outcome
  unfolding read_transitions_of transition_record_of record_at
  transitions_low zero text n at rec i outcome l h o = o
  transitions_low (suc k) text n at rec i outcome l h o =
      transitions_low k text n _ (rec + 1) _ _ _ (omega arith)
      (then_low _ _ o (outcome_low _ rec (record_of_file text at letter_l (transition_ranges n (count_at text at))) (omega arith)))

header_of_file : (text : List ℕ) → OfFile (header_of text).fault
unfolding header_of record_at
header_of_file text = record_of_file text 0 letter_t header_ranges

end_of_file : (text : List ℕ) (at : ℕ) → OfFile (end_fault_of text at)
unfolding end_fault_of
end_of_file text at = go (ltb at (length text))
  where
    go : (x : Bool) → OfFile (cond x (Some BytesFollow) None)
    go true = omega arith
    go false = tt

outcome_with_low : (text : List ℕ) → Low most_records (outcome_with text (header_of text))
unfolding outcome_with starts_of finals_of transitions_of states_from transitions_from
outcome_with_low text =
    let h = header_of text in
    let c = counted text h refl in
    let all : record_count h ≤ most_records = omega (arith, c.few_starts, c.few_finals, c.few_transitions) in
    let some : 1 + h.starts ≤ most_records = omega arith in
    let more : 1 + h.starts + h.finals ≤ most_records = omega arith in
    let starts = states_low h.starts text letter_s h.states _ _ 1 (Ok tt) _ some passed_low in
    let finals = states_low h.finals text letter_f h.states _ _ (1 + h.starts) (Ok tt) _ more passed_low in
    let lines = transitions_low h.transitions text h.states _ (1 + h.starts + h.finals) _ (Ok tt) _ all passed_low in
    let header = outcome_low h.fault 0 (header_of_file text) (omega arith) in
    then_low _ _ (then_low _ _ (then_low _ _ (then_low _ _ header starts) finals) lines) (outcome_low _ _ (end_of_file text _) all)

read_low : (text : List ℕ) → (record_of (read_of text) ≤ most_records) × (number_of (read_of text) ≤ bytes_follow)
unfolding read_of
read_low text = go (outcome_with text (header_of text)) (outcome_with_low text)
  where
    go : (o : Outcome) → Low most_records o
        → (record_of (o ▸ Ok (table_with text (header_of text))) ≤ most_records) × (number_of (o ▸ Ok (table_with text (header_of text))) ≤ bytes_follow)
    go (Ok passed) l = (omega arith, omega arith)
    go (Err r) l = (l.at_record, l.of_file)

-- the record of a refusal
pub read_record_lem : (text : List ℕ) → record_of (read_of text) ≤ most_records
read_record_lem text = (read_low text).0

-- the number of what becomes of a file is at most 6
pub number_low : (text : List ℕ) → number_of (read_of text) ≤ bytes_follow
number_low text = (read_low text).1
