-- The records `L`: one transition each.
use Rattle.std.specs.Prelude.{List, ℕ, zero, suc, ◌+◌, ◌≤◌, Ok, get_or, drop, set}
use Rattle.records.specs.Field.{columns}
use Rattle.records.specs.Letters.{letter_l}
use Rattle.records.specs.Reading.{range, number_at, record_at}
use Rattle.records.specs.declared.reading.Record.{Record}
use Rattle.transducer.specs.Limits.{most_outputs, most_code}
use Rattle.transducer.specs.Transition.{firsts}
use Rattle.transducer.specs.Blank.{blank_transducer}
use Rattle.transducer.specs.declared.OutputCode.{OutputCode}
use Rattle.transducer.specs.declared.Transition.{Transition}
use Rattle.tablereader.specs.Outcome.{Outcome, outcome_for, ◌▸◌}
use Rattle.tablereader.specs.Record.{transition_ranges}
use Rattle.tablereader.specs.declared.transitions.Transitions.{Transitions}

-- the count of output codes of the record at a place, which stands in its fourth field
unfoldable pub count_at : List ℕ → ℕ → ℕ
count_at text at = (number_at text (at + 1 + columns + columns + columns) (range 0 most_outputs)).value

-- the record at a place, with as many output codes as its count says
unfoldable pub transition_record_of : List ℕ → ℕ → ℕ → Record
transition_record_of text at n = record_at text at letter_l (transition_ranges n (count_at text at))

-- the output code at place j of a record's values: it stands behind four other fields, and behind all output codes the values are 0
abbrev pub code_of : List ℕ → ℕ → OutputCode
code_of values j = record { 0 = get_or (drop 4 values) j 0 }

-- the transition of a record's values
unfoldable pub transition_with : List ℕ → Transition
transition_with values =
    record {
      from = get_or values 0 0;
      to = get_or values 1 0;
      input = record { 0 = get_or values 2 0 };
      count = get_or values 3 0;
      output = firsts most_outputs (code_of values);
    }

-- no value is larger than a code
pub record Small (values : List ℕ) : Type 0 where
  pub small : (j : ℕ) → get_or values j 0 ≤ most_code

-- so many records from a place, the next of them record `rec` and transition i, after an outcome and the transitions before
unfoldable pub read_transitions_of : ℕ → List ℕ → ℕ → ℕ → ℕ → ℕ → Outcome → List Transition → Transitions
read_transitions_of zero text n at rec i outcome transitions = record { outcome = outcome; next = at; transitions = transitions }
read_transitions_of (suc k) text n at rec i outcome transitions =
    let one = transition_record_of text at n in
    read_transitions_of k text n one.next (rec + 1) (i + 1) (outcome ▸ outcome_for one.fault rec) (set transitions i (transition_with one.values))

-- so many records from a place, the first of them record `first`; the places beyond are those of the blank transducer
unfoldable pub transitions_from : ℕ → List ℕ → ℕ → ℕ → ℕ → Transitions
transitions_from count text n at first = read_transitions_of count text n at first 0 (Ok tt) blank_transducer.transitions
