-- A table file, read whole: the header, the start states, the final states, the transitions, and the end. A refusal does not end the reading: what
-- follows is read too, and the first refusal is the outcome.
use Rattle.std.specs.Prelude.{cond, List, ℕ, ◌+◌, ◌*◌, Option, None, Some, Result, Ok, ltb, length}
use Rattle.transducer.specs.declared.refusals.Refusal.{Refusal}
use Rattle.transducer.specs.declared.refusals.Refusal.TheVariants.{BytesFollow}
use Rattle.transducer.specs.StateSet.{no_states}
use Rattle.transducer.specs.Lines.{keeping}
use Rattle.transducer.specs.declared.Transducer.{Transducer}
use Rattle.tablereader.specs.Outcome.{Outcome, outcome_for, ◌▸◌}
use Rattle.tablereader.specs.Record.{header_size, state_size}
use Rattle.records.specs.Letters.{letter_s, letter_f}
use Rattle.tablereader.specs.Header.{header_of}
use Rattle.tablereader.specs.States.{states_from}
use Rattle.tablereader.specs.Transitions.{transitions_from}
use Rattle.tablereader.specs.declared.FileRefusal.{FileRefusal}
use Rattle.tablereader.specs.declared.header.Header.{Header}
use Rattle.tablereader.specs.declared.states.States.{States}
use Rattle.tablereader.specs.declared.transitions.Transitions.{Transitions}

-- after the last record, which ends before a place: bytes may follow
unfoldable pub end_fault_of : List ℕ → ℕ → Option Refusal
end_fault_of text at = cond (ltb at (length text)) (Some BytesFollow) None

-- the count of records of a file with these counts
abbrev pub record_count : Header → ℕ
record_count h = 1 + h.starts + h.finals + h.transitions

module _ (text : List ℕ) (h : Header) where
  -- the start states: they follow the header, and the first of them is record 1
  unfoldable pub starts_of : States
  starts_of = states_from h.starts text letter_s h.states header_size 1

  -- the final states: they follow the start states
  unfoldable pub finals_of : States
  finals_of = states_from h.finals text letter_f h.states (header_size + state_size * h.starts) (1 + h.starts)

  -- the transitions: they follow the final states
  unfoldable pub transitions_of : Transitions
  transitions_of =
      transitions_from h.transitions text h.states (header_size + state_size * h.starts + state_size * h.finals) (1 + h.starts + h.finals)

  -- the outcome, in the order of the file; after the last record the record's number is the count of records
  unfoldable pub outcome_with : Outcome
  outcome_with =
      outcome_for h.fault 0 ▸ starts_of.outcome ▸ finals_of.outcome ▸ transitions_of.outcome
      ▸ outcome_for (end_fault_of text transitions_of.next) (record_count h)

  -- what the records give of a transducer
  unfoldable pub records_with : Transducer
  records_with =
      record {
        states = h.states;
        starts = starts_of.set;
        finals = finals_of.set;
        count = h.transitions;
        transitions = transitions_of.transitions;
        useful = no_states;
      }

  -- the transducer: its useful states, which it keeps, no record has
  unfoldable pub table_with : Transducer
  table_with = keeping records_with

-- what is read of a table file: the first refusal, or the transducer
unfoldable pub read_of : List ℕ → Result Transducer FileRefusal
read_of text = outcome_with text (header_of text) ▸ Ok (table_with text (header_of text))
