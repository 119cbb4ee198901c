-- What is read keeps the rules of a transducer. The values that are read are in their ranges also where a check is refused, so that it holds whatever
-- the outcome is. Assumes nothing.
use mathlib.Core.Path.{◌≡◌, refl}
use mathlib.Core.Bool.{true}
use mathlib.Core.List.{List}
use Prim.Native.Nat.{ℕ, ◌≤◌}
use Rattle.transducer.specs.Limits.{most_states, most_transitions}
use Rattle.transducer.specs.Valid.{Valid}
use Rattle.transducer.specs.Accepted.{accepted_of}
use Rattle.transducer.specs.declared.Transducer.{Transducer}
use Rattle.transducer.proofs.AcceptedLaws.{keeping_accepted}
use Rattle.transducer.proofs.BlankLaws.{blank_accepted}
use Rattle.std.specs.Prelude.{Ok, Err}
use Rattle.tablereader.specs.Outcome.{Outcome, ◌▸◌, table_of_reading}
use Rattle.records.specs.Letters.{letter_s, letter_f}
use Rattle.tablereader.specs.Header.{Counted, header_of}
use Rattle.tablereader.specs.Reader.{starts_of, finals_of, transitions_of, outcome_with, records_with, table_with, read_of}
use Rattle.tablereader.specs.declared.header.Header.{Header}
use Rattle.tablereader.proofs.HeaderRecord.{counted}
use Rattle.tablereader.proofs.StateRecords.{Below, states_from_below}
use Rattle.tablereader.proofs.TransitionRecords.{Placed, transitions_from_placed}

-- a transducer keeps the rules if its parts do
valid : (t : Transducer) → 1 ≤ t.states → t.states ≤ most_states → t.count ≤ most_transitions → Below t.states t.starts → Below t.states t.finals
    → Placed t.states t.count t.transitions → Valid t
valid t some few most s f p =
    record {
      some_state = some;
      few_states = few;
      start_state = s.below;
      final_state = f.below;
      few_transitions = most;
      used = p.used;
      beyond_clear = p.clear;
    }

pub records_valid : (text : List ℕ) (h : Header) → Counted h → Valid (records_with text h)
unfolding records_with starts_of finals_of transitions_of
records_valid text h c =
    let some = c.some_state in
    valid (records_with text h) some c.few_states c.few_transitions (states_from_below h.starts text letter_s h.states _ _ some)
    (states_from_below h.finals text letter_f h.states _ _ some)
    (transitions_from_placed h.transitions text h.states _ _ some c.few_transitions)

-- every entry point accepts what is read, also where it is the blank transducer: it keeps the rules, and its useful states
pub read_accepted : (text : List ℕ) → accepted_of (table_of_reading (read_of text)) ≡ true
unfolding read_of table_with
read_accepted text = go (outcome_with text (header_of text))
  where
    go : (o : Outcome) → accepted_of (table_of_reading (o ▸ Ok (table_with text (header_of text)))) ≡ true
    go (Ok passed) = keeping_accepted _ (records_valid text (header_of text) (counted text (header_of text) refl))
    go (Err r) = blank_accepted
