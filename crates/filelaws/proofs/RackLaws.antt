-- A table that is read and then edited: its lines, its file, and that verdict and translator serve it as they serve its file. Assumes nothing.
use mathlib.Core.Path.{◌≡◌, ap, ◌∙◌}
use mathlib.Core.List.{List}
use Prim.Native.Nat.{ℕ}
use Rattle.transducer.specs.Lines.{lines_of}
use Rattle.transducer.specs.declared.Transducer.{Transducer}
use Rattle.tablereader.specs.Reader.{read_of}
use Rattle.tablereader.specs.Outcome as outcome
use Rattle.tablereader.specs.Outcome.{table_of_reading}
use Rattle.tablereader.proofs.Validity.{read_accepted}
use Rattle.tablereader.proofs.ReadLaws.{read_shaped}
use Rattle.tablewriter.specs.File.{write_of}
use Rattle.tablefile.specs.RoundTrips.{taken_as}
use Rattle.tablefile.proofs.RoundTrips.{round_trips}
use Rattle.edits.specs.Edits.{Edit}
use Rattle.edits.specs.Rows.{Calls, after_edits}
use Rattle.edits.proofs.RowLaws.{in_a_row}
use Rattle.engine.specs.Engine.{Taken, table_of}
use Rattle.engine.specs.Demand3.{file, value}
use Rattle.engine.proofs.Demand3.{demand_3}
use Rattle.filelaws.specs.Rack.{ServedAlike, EditedFrom}
use Rattle.filelaws.proofs.FileLaws.{made_with, taken_with}

-- ---- a table and its file

-- what is asked of a file is answered for what it is read to
module _ (f : List ℕ) (t : Transducer) (read : read_of f ≡ taken_as t) where
  taken : Taken f
  taken = ap outcome.number_of read

  table : table_of f ≡ t
  table = ap table_of_reading read

  pub served_alike : ServedAlike (file f) (value t)
  served_alike =
      record {
        verdict = λ b b' r. (λ h. rw table at (h.taken taken), λ h. record { refused = λ n. absurd (n taken); taken = λ _. rw table h });
        translation = λ input out₀ out q.
            (λ h. rw table at (h.taken taken), λ h. record { refused = λ n. absurd (n taken); taken = λ _. rw table h });
      }

-- ---- the theorem

pub edited_from : {f : List ℕ} {edits : List Edit} {numbers : List ℕ} {t : Transducer} → Taken f → Calls (table_of f) edits numbers t
    → EditedFrom f edits numbers t
edited_from {f} {edits} {t = t} taken calls =
    let row = in_a_row (read_accepted f) (read_shaped f) calls in
    let read = round_trips.read_written t row.accepted row.shaped in
    record {
      row = row;
      file_read = taken_with f taken;
      file_written = ap write_of row.table ∙ made_with (table_of f) (after_edits (table_of f).states (lines_of (table_of f)) edits);
      read_again = read;
      served = served_alike (write_of t) t read;
      demand = demand_3 (value t) row.accepted;
    }
