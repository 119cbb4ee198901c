-- A line that is pasted a second time is written and read: the statement of specs/Repeats.antt holds. Assumes nothing.
use mathlib.Core.Path.{◌≡◌}
use mathlib.Core.List.{List, [], ◌∷◌, ◌++◌, flat_map, append_assoc, append-nil}
use Prim.Native.Nat.{ℕ}
use native.Mathlib.Omega.{arith}
use lib.ListN.{length, length-append}
use lib.Seq.{drop_at}
use Rattle.records.specs.Letters.{letter_s, letter_f}
use Rattle.records.proofs.RecordBytes.{length_record}
use Rattle.transducer.specs.Transition.{at}
use Rattle.transducer.specs.Lines.{lines_of, transducer_of, appended}
use Rattle.transducer.specs.declared.Transition.{Transition}
use Rattle.transducer.specs.declared.Transducer.{Transducer}
use Rattle.transducer.proofs.AcceptedLaws.{accepted_valid, made_valid_accepted}
use Rattle.transducer.proofs.LineLaws.{appended_lines, appended_valid, appended_shaped}
use Rattle.transducer.proofs.AlikeLaws.{pasted_alike}
use Rattle.tablewriter.specs.File.{states_of, state_bytes, transition_bytes, transition_bytes_below, header_bytes, write_of}
use Rattle.std.proofs.lemmas.Grind.{flat_map-append}
use Rattle.tablefile.specs.Repeats.{RepeatsKept}
use Rattle.tablefile.proofs.ReadWritten.{read_written}

module _ (t : Transducer) (v : Transition) where
  -- what stands in the file before the last record: the header has one line more
  abbrev front : List ℕ
  front =
      header_bytes (appended t v) ++ state_bytes letter_s (states_of t.starts) ++ state_bytes letter_f (states_of t.finals)
      ++ flat_map transition_bytes (lines_of t)

  -- it is as long as the file of t: of the header only the last field, the number of lines, is another
  front_long : length front ≡ length (write_of t)
  unfolding write_of transition_bytes_below header_bytes
  front_long = simp (length-append, length_record)

  appended_written : write_of (appended t v) ≡ front ++ transition_bytes v
  unfolding write_of transition_bytes_below transducer_of flat_map
  appended_written = rw (appended_lines t v) (simp (flat_map-append transition_bytes, append-nil, append_assoc))

-- the theorem
pub repeats_kept : RepeatsKept
repeats_kept t accepted shaped room l h =
    let valid = accepted_valid t accepted in
    let v = at t l in
    let ok = made_valid_accepted t.states t.starts t.finals (lines_of t ++ (v ∷ [])) (appended_valid t v valid room (valid.used l h)) in
    record {
      accepted = ok;
      written = rw (appended_written t v) (drop_at (front t v) (transition_bytes v) (length (write_of t)) (front_long t v));
      read = read_written (appended t v) ok (appended_shaped t v shaped room (shaped.outputs l (omega arith)));
      lines = appended_lines t v;
      alike = pasted_alike t l h;
    }
