-- The longest file. "Show that a text which has passed the checks 1 to 6 has at most 13,202 bytes" (document 02, job 5): so no check of the length
-- stands behind them, and there is no refusal 12. `longest_file` of proofs/LongestLaws.antt is the proof.
use Rattle.std.specs.Prelude.{◌≡◌, List, ℕ, ◌≤◌, ◌<◌, length, take}
use Rattle.transducer.specs.Refusals.{ended, bytes_follow}
use Rattle.records.specs.Letters.{most_bytes}
use Rattle.tablereader.specs.Outcome.{number_of}
use Rattle.tablereader.specs.Reader.{read_of}

-- how long a file can be, and what becomes of a longer one
pub record LongestFile : Type 0 where
  -- what the limits make is the document's number: 18 + 6 × 64 + (18 + 32) × 256
  pub bytes : most_bytes ≡ 13202
  -- a text that has passed the checks 1 to 6 has at most so many bytes
  pub at_most : (text : List ℕ) → number_of (read_of text) ≡ 0 → length text ≤ most_bytes
  -- a longer text is refused with one of 1 to 6
  pub refused : (text : List ℕ) → most_bytes < length text → (ended ≤ number_of (read_of text)) × (number_of (read_of text) ≤ bytes_follow)
  -- the first n bytes of a text, n more than the longest file has, are read to the same as the whole
  pub seen : (text : List ℕ) (n : ℕ) → most_bytes < n → read_of (take n text) ≡ read_of text
