-- The first record, `T`.
use Rattle.std.specs.Prelude.{List, ℕ, ◌≤◌, get_or}
use Rattle.transducer.specs.Limits.{most_states, most_transitions}
use Rattle.records.specs.Letters.{letter_t}
use Rattle.records.specs.Reading.{record_at}
use Rattle.records.specs.declared.reading.Record.{Record}
use Rattle.tablereader.specs.Record.{header_ranges}
use Rattle.tablereader.specs.declared.header.Header.{Header}

-- the counts that a record gives
abbrev pub counts_of : Record → Header
counts_of r =
    record {
      fault = r.fault;
      states = get_or r.values 0 0;
      starts = get_or r.values 1 0;
      finals = get_or r.values 2 0;
      transitions = get_or r.values 3 0;
    }

-- the record at the beginning of the text
unfoldable pub header_of : List ℕ → Header
header_of text = counts_of (record_at text 0 letter_t header_ranges)

-- the counts are in their ranges
pub record Counted (h : Header) : Type 0 where
  pub some_state : 1 ≤ h.states
  pub few_states : h.states ≤ most_states
  pub few_starts : h.starts ≤ most_states
  pub few_finals : h.finals ≤ most_states
  pub few_transitions : h.transitions ≤ most_transitions
