-- The counts that the header gives are in their ranges, also where it is refused. Assumes nothing.
use mathlib.Core.Path.{◌≡◌}
use mathlib.Core.List.{List}
use Prim.Native.Nat.{ℕ}
use native.Mathlib.Omega.{arith}
use Rattle.transducer.specs.Limits.{most_transitions}
use Rattle.records.specs.Reading.{values_at, record_at}
use Rattle.records.proofs.RangeLaws.{Proper, values_within}
use Rattle.tablereader.specs.Record.{header_ranges}
use Rattle.tablereader.specs.Header.{Counted, header_of}
use Rattle.tablereader.specs.declared.header.Header.{Header}

pub counted : (text : List ℕ) (h : Header) → h ≡ header_of text → Counted h
unfolding header_of record_at values_at
counted text h e =
    let p : Proper most_transitions header_ranges =
    (omega arith, omega arith, (omega arith, omega arith, (omega arith, omega arith, (omega arith, omega arith, tt))))
    in
    let w = values_within text most_transitions 1 header_ranges p in
    rw e (record {
      some_state = w.0.0;
      few_states = w.0.1;
      few_starts = w.1.0.1;
      few_finals = w.1.1.0.1;
      few_transitions = w.1.1.1.0.1;
    })
