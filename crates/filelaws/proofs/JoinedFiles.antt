-- The file of two tables that were read and joined: it is taken, read to the join, and no longer than a file can be. Assumes nothing.
use mathlib.Core.Path.{◌≡◌, sym, ap, ◌∙◌}
use mathlib.Core.List.{List}
use Prim.Native.Nat.{ℕ, ◌≤◌}
use lib.ListN.{length}
use Rattle.records.specs.Letters.{most_bytes}
use Rattle.std.specs.Prelude.{Result}
use Rattle.transducer.specs.Refusals.{number_of}
use Rattle.transducer.specs.declared.refusals.Refusal.{Refusal}
use Rattle.transducer.specs.declared.Transducer.{Transducer}
use Rattle.tablereader.specs.Outcome as outcome
use Rattle.tablereader.specs.Outcome.{table_of_reading}
use Rattle.tablereader.specs.Reader.{read_of}
use Rattle.tablereader.proofs.ReadLaws.{read_shaped}
use Rattle.tablewriter.specs.File.{write_of}
use Rattle.tablefile.specs.RoundTrips.{taken_as}
use Rattle.tablefile.proofs.RoundTrips.{round_trips}
use Rattle.series.specs.Join.{joined_of, JoinedOf}
use Rattle.series.proofs.SeriesLaws.{in_series, joined_shaped}
use Rattle.engine.specs.Engine.{table_of}
use Rattle.filelaws.specs.Series.{FileInSeries}

module _ (f g : List ℕ) {r : Result Transducer Refusal} (h : JoinedOf (table_of f) (table_of g) r) where
  file_read : read_of (write_of (joined_of r)) ≡ taken_as (joined_of r)
  file_read = round_trips.read_written (joined_of r) (in_series h).accepted (joined_shaped h (read_shaped g))

  file_joined : table_of (write_of (joined_of r)) ≡ joined_of r
  file_joined = ap table_of_reading file_read

  pub files_in_series : number_of r ≡ 0 → FileInSeries f g (write_of (joined_of r))
  files_in_series made =
      let series = in_series h in
      record {
        taken = ap outcome.number_of file_read;
        joins =
            record {
              joined = h.joined;
              exactly = h.exactly;
              number = sym made ∙ h.number;
              table = file_joined ∙ h.table;
            };
        composition = rw file_joined (series.composition made);
        functional = rw file_joined series.functional;
      }

  pub join_fits : length (write_of (joined_of r)) ≤ most_bytes
  join_fits = round_trips.written_at_most (joined_of r) (in_series h).accepted
