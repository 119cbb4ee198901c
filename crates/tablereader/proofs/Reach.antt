-- How far the records of a file reach, whatever is refused: no further than its counts say, and so than the longest file. Assumes nothing.
use mathlib.Core.Path.{refl}
use mathlib.Core.List.{List}
use Prim.Native.Nat.{ℕ, zero, suc, ◌+◌, ◌*◌, ◌≤◌}
use native.Mathlib.Omega.{arith}
use lib.ListN.{set}
use Rattle.transducer.specs.Blank.{blank_transducer}
use Rattle.transducer.specs.declared.Transition.{Transition}
use Rattle.records.specs.Letters.{most_bytes}
use Rattle.std.specs.Prelude.{Ok}
use Rattle.tablereader.specs.Outcome.{Outcome, outcome_for, ◌▸◌}
use Rattle.tablereader.specs.Record.{header_size, state_size, transition_size}
use Rattle.tablereader.specs.Header.{header_of}
use Rattle.tablereader.specs.Transitions.{transition_record_of, transition_with, read_transitions_of, transitions_from}
use Rattle.tablereader.specs.Reader.{transitions_of}
use Rattle.tablereader.proofs.HeaderRecord.{counted}
use Rattle.tablereader.proofs.TransitionRecords.{transition_next}

-- each transition's record has at most so many bytes
transitions_next : (k : ℕ) (text : List ℕ) (n at rec i : ℕ) (outcome : Outcome) (l : List Transition)
    → (read_transitions_of k text n at rec i outcome l).next ≤ at + transition_size * k
unfolding read_transitions_of
transitions_next zero text n at rec i outcome l = omega arith
transitions_next (suc k) text n at rec i outcome l =
    let one = transition_record_of text at n in
    omega (
      arith,
      transition_next text at n one refl,
      transitions_next k text n one.next (rec + 1) (i + 1) (outcome ▸ outcome_for one.fault rec) (set l i (transition_with one.values)),
    )

-- the place past the last record
pub next_at_most : (text : List ℕ) → (transitions_of text (header_of text)).next ≤ most_bytes
unfolding transitions_of transitions_from
next_at_most text =
    let h = header_of text in
    let c = counted text h refl in
    let start = header_size + state_size * h.starts + state_size * h.finals in
    omega (
      arith,
      c.few_starts,
      c.few_finals,
      c.few_transitions,
      transitions_next h.transitions text h.states start (1 + h.starts + h.finals) 0 (Ok tt) blank_transducer.transitions,
    )
