-- Demand 2, second half: "reading a written table gives that table, and writing a read file gives its bytes", of the definitions and of any results
-- that meet the contracts of the reader (what it returns is `read_of` of the text) and of the writer (`Wrote`).
use Rattle.std.specs.Prelude.{◌≡◌, true, List, ◌++◌, ℕ, ◌+◌, ◌*◌, ◌≤◌, Result, Ok, Err, length, take}
use Rattle.records.specs.Letters.{most_bytes}
use Rattle.buffers.specs.Put.{put}
use Rattle.transducer.specs.Valid.{Shaped}
use Rattle.transducer.specs.Accepted.{accepted_of}
use Rattle.transducer.specs.Refusals.{number_of}
use Rattle.transducer.specs.declared.refusals.Refusal.{Refusal}
use Rattle.transducer.specs.declared.refusals.Refusal.TheVariants.{BytesFollow}
use Rattle.transducer.specs.declared.Transducer.{Transducer}
use Rattle.tablereader.specs.Outcome as reading
use Rattle.tablereader.specs.Outcome.{table_of_reading}
use Rattle.tablereader.specs.Header.{header_of}
use Rattle.tablereader.specs.Reader.{record_count, read_of}
use Rattle.tablereader.specs.declared.FileRefusal.{FileRefusal}
use Rattle.tablewriter.specs.File.{size_of, all_outputs, write_of}
use Rattle.tablewriter.specs.Writing.{length_of, Wrote}

-- a file that is taken as t
abbrev pub taken_as : Transducer → Result Transducer FileRefusal
taken_as t = Ok t

-- a file that is refused with 6, at the record of a number
abbrev pub followed_at : ℕ → Result Transducer FileRefusal
followed_at at = Err (record { refusal = BytesFollow; «record» = at })

-- what `write` answers and leaves where it writes the file f: its byte count, and f at the buffer's front
pub record WritesFile (f before after : List ℕ) (r : Result ℕ Refusal) : Type 0 where
  pub number : number_of r ≡ 0
  pub count : length_of r ≡ length f
  pub front : take (length f) after ≡ f
  pub buffer : after ≡ put before 0 f

-- a file that is taken and has as many bytes as a file can have
pub record LongestTaken : Type 0 where
  pub file : List ℕ
  pub taken : reading.number_of (read_of file) ≡ 0
  pub size : length file ≡ most_bytes

-- the round trips, of the definitions and of the calls; what is read is valid; how long a file is, and that nothing follows it
pub record RoundTrips : Type 0 where
  -- "reading a written table gives that table"
  pub read_written : (t : Transducer) → accepted_of t ≡ true → Shaped t → read_of (write_of t) ≡ taken_as t
  -- "and writing a read file gives its bytes"
  pub written_read : (f : List ℕ) → reading.number_of (read_of f) ≡ 0 → write_of (table_of_reading (read_of f)) ≡ f
  -- the first of the calls: what `read` returns of the bytes that `write` wrote
  pub write_then_read : (t : Transducer) (before after : List ℕ) (w : Result ℕ Refusal) (r : Result Transducer FileRefusal) → Wrote t before after w → number_of w ≡ 0
      → r ≡ read_of (take (length_of w) after) → r ≡ taken_as t
  -- the second of the calls: what `write` answers and leaves of the table that `read` returned, in a buffer that has room for the file
  pub read_then_write : (f before after : List ℕ) (r : Result Transducer FileRefusal) (w : Result ℕ Refusal) → r ≡ read_of f → reading.number_of r ≡ 0
      → Wrote (table_of_reading r) before after w → length f ≤ length before → WritesFile f before after w
  -- what the reader takes keeps the rules of a table
  pub taken_valid : (f : List ℕ) → reading.number_of (read_of f) ≡ 0 → accepted_of (table_of_reading (read_of f)) ≡ true
  -- "A written file has 18 + 6 × (starts + finals) + 18 × k + 4 × (all output codes) bytes"
  pub written_length : (t : Transducer) → length (write_of t) ≡ 18 + 6 * (size_of t.starts + size_of t.finals) + 18 * t.count + 4 * all_outputs t
  -- "at most 13,202"
  pub written_at_most : (t : Transducer) → accepted_of t ≡ true → length (write_of t) ≤ most_bytes
  -- and some file has as many
  pub longest_taken : LongestTaken
  -- a file that is taken is refused with bytes behind it, however many: with 6, at the count of its records
  pub followed : (f rest : List ℕ) → reading.number_of (read_of f) ≡ 0 → 1 ≤ length rest → read_of (f ++ rest) ≡ followed_at (record_count (header_of f))
