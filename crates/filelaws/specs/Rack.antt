-- "Editing in the rack" (document 02, job 6), whole, of a table that is read from a file and then edited by any number of calls: `edited_from` of
-- proofs/RackLaws.antt proves it of every file that the reader takes.
use Rattle.std.specs.Prelude.{◌≡◌, ◌↔◌, ℕ, length}
use mathlib.Core.List.{List, [], ◌∷◌, ◌++◌, flat_map}
use Rattle.records.specs.Field.{columns}
use Rattle.records.specs.Letters.{letter_t, letter_s, letter_f}
use Rattle.records.specs.Record.{record_bytes}
use Rattle.transducer.specs.Lines.{lines_of}
use Rattle.transducer.specs.declared.Transition.{Transition}
use Rattle.transducer.specs.declared.Transducer.{Transducer}
use Rattle.tablereader.specs.Reader.{read_of}
use Rattle.tablewriter.specs.File.{states_of, size_of, state_bytes, transition_bytes, write_of}
use Rattle.tablefile.specs.RoundTrips.{taken_as}
use Rattle.edits.specs.Edits.{Edit, edit_lines, edit_of}
use Rattle.edits.specs.Rows.{after_edits, InARow}
use Rattle.witness.specs.Showing.{Buffers}
use Rattle.engine.specs.Engine.{Taken, table_of, Judgement, FileTranslation}
use Rattle.engine.specs.Demand3.{Served, file, value, VerdictFor, AnswerFor, Demand3}

-- the file of t with these lines in the place of its own: a `T` that counts them, the `S` and `F` of t, and an `L` for each of them
unfoldable pub file_with : Transducer → List Transition → List ℕ
file_with t lines =
    record_bytes columns letter_t (t.states ∷ size_of t.starts ∷ size_of t.finals ∷ length lines ∷ [])
    ++ state_bytes letter_s (states_of t.starts) ++ state_bytes letter_f (states_of t.finals) ++ flat_map transition_bytes lines

-- g is the file f, edited by e
pub record EditOfFile (f : List ℕ) (e : Edit) (g : List ℕ) : Type 0 where
  -- byte for byte: the edited lines stand in the place of its own
  pub bytes : g ≡ file_with (table_of f) (edit_lines (lines_of (table_of f)) e)
  -- the reader takes it, and reads it to the edited table
  pub taken : Taken g
  pub table : table_of g ≡ edit_of (table_of f) e

-- verdict and translator serve s' as they serve s: what is an answer for the one is an answer for the other
pub record ServedAlike (s s' : Served) : Type 0 where
  pub verdict : (b b' : Buffers) (r : Judgement) → VerdictFor s b b' r ↔ VerdictFor s' b b' r
  pub translation : (input out₀ out : List ℕ) (q : FileTranslation) → AnswerFor s input out₀ out q ↔ AnswerFor s' input out₀ out q

-- t is what calls for these edits, with these refusals, make of the table of the file f
pub record EditedFrom (f : List ℕ) (edits : List Edit) (numbers : List ℕ) (t : Transducer) : Type 0 where
  -- "Over every list of these two calls from a read table, refused ones included, the table is the one that the same list of edits makes of the file's
  -- lines."
  pub row : InARow (table_of f) edits numbers t
  -- the file's lines, and the edited ones, byte for byte
  pub file_read : f ≡ file_with (table_of f) (lines_of (table_of f))
  pub file_written : write_of t ≡ file_with (table_of f) (after_edits (table_of f).states (lines_of (table_of f)) edits)
  pub read_again : read_of (write_of t) ≡ taken_as t
  -- "Verdict and translator serve an edited table as they serve a read one."
  pub served : ServedAlike (file (write_of t)) (value t)
  pub demand : Demand3 (value t)
