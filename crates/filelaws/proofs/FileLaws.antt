-- The file of a table by its lines, and the file of an edited table. Assumes nothing.
use mathlib.Core.Path.{◌≡◌, refl, sym, ap, ◌∙◌}
use mathlib.Core.List.{List}
use Prim.Native.Nat.{ℕ}
use Rattle.transducer.specs.Limits.{most_outputs}
use Rattle.transducer.specs.Lines.{lines_of, transducer_of}
use Rattle.transducer.specs.declared.Transition.{Transition}
use Rattle.transducer.specs.declared.Transducer.{Transducer}
use Rattle.transducer.proofs.SizeLaws.{length_firsts}
use Rattle.transducer.proofs.AcceptedLaws.{accepted_valid}
use Rattle.transducer.proofs.LineLaws.{lines_long, made_lines}
use Rattle.tablereader.specs.Reader.{read_of}
use Rattle.tablereader.specs.Transitions.{code_of, transition_with}
use Rattle.tablereader.specs.Outcome as outcome
use Rattle.tablereader.specs.Outcome.{table_of_reading}
use Rattle.tablereader.proofs.Validity.{read_accepted}
use Rattle.tablereader.proofs.ReadLaws.{read_shaped}
use Rattle.tablewriter.specs.File.{transition_bytes_below, header_bytes, write_of}
use Rattle.tablefile.proofs.RoundTrips.{round_trips}
use Rattle.edits.specs.Edits.{Edit, append, Whole, with_line_lem, line_refusal, edit_lines, edit_of}
use Rattle.edits.proofs.RowLaws.{edit_accepted, edit_shaped}
use Rattle.engine.specs.Engine.{Taken, table_of}
use Rattle.filelaws.specs.Rack.{file_with, EditOfFile}

-- a transducer's file is that of its lines
written_with : (t : Transducer) → write_of t ≡ file_with t (lines_of t)
unfolding write_of header_bytes transition_bytes_below file_with
written_with t = rw (lines_long t)

-- with these lines it is the same for a transducer that is made of others
pub parts_with : (t : Transducer) (lines others : List Transition)
    → file_with (transducer_of t.states t.starts t.finals others) lines ≡ file_with t lines
unfolding file_with transducer_of
parts_with t lines others = refl

-- of one that is made of other lines it is that of those
pub made_with : (t : Transducer) (lines : List Transition) → write_of (transducer_of t.states t.starts t.finals lines) ≡ file_with t lines
made_with t lines = written_with made ∙ same ∙ ap (file_with t) (made_lines t.states t.starts t.finals lines)
  where
    made : Transducer
    made = transducer_of t.states t.starts t.finals lines

    same : file_with made (lines_of made) ≡ file_with t (lines_of made)
    same = parts_with t (lines_of made) lines

-- a file that is taken is its table's
pub taken_written : (f : List ℕ) → Taken f → f ≡ write_of (table_of f)
taken_written f taken = sym (round_trips.written_read f taken)

-- and so that of its table's lines
pub taken_with : (f : List ℕ) → Taken f → f ≡ file_with (table_of f) (lines_of (table_of f))
taken_with f taken = taken_written f taken ∙ written_with (table_of f)

-- a line that is handed over as numbers has all its places
pub line_whole : (line : List ℕ) → Whole (append (transition_with line))
unfolding transition_with
line_whole line = with_line_lem (transition_with line) refl (length_firsts most_outputs (code_of line))

-- an edit that is not refused, of a file that is taken
pub edit_of_file : (f : List ℕ) (e : Edit) → Whole e → line_refusal (table_of f).states (lines_of (table_of f)) e ≡ 0
    → EditOfFile f e (write_of (edit_of (table_of f) e))
unfolding edit_of
edit_of_file f e whole none =
    let t = table_of f in
    let accepted = read_accepted f in
    let shaped = edit_shaped t e (accepted_valid t accepted) (read_shaped f) whole none in
    let read = round_trips.read_written (edit_of t e) (edit_accepted t e accepted none) shaped in
    record {
      bytes = made_with t (edit_lines (lines_of t) e);
      taken = ap outcome.number_of read;
      table = ap table_of_reading read;
    }
