-- What is shown of a verdict, as one value: nothing for single, for split the witness. The listing and the room are those of specs/Listing.antt.
use Rattle.std.specs.Prelude.{Option, Some, None, true, false, List, [], ℕ, ◌≤◌, length}
use Rattle.listing.specs.declared.Shown.{Shown}
use Rattle.listing.specs.Listing.{verdict_listing, witness_listing, most_steps, most_shown, pair_bytes, VerdictRoom}

-- what the verdict program prints of u and what is shown
abbrev pub shown_listing : ℕ → Option Shown → List ℕ
shown_listing u None = verdict_listing false u [] [] [] [] [] 0
shown_listing u (Some s) = verdict_listing true u s.word.now s.path_a.now s.path_b.now s.output_x.now s.output_y.now s.shared

-- the buffer has room for `V`; and for the longest listing where a witness is shown, with no more items than document 01 has
abbrev pub ShownRoom : Option Shown → List ℕ → Type 0
ShownRoom None out = pair_bytes ≤ length out
ShownRoom (Some s) out = VerdictRoom s.word.now s.path_a.now s.path_b.now s.output_x.now s.output_y.now out

-- the records of the witness that is shown
abbrev pub shown_witness : Shown → List ℕ
shown_witness s = witness_listing s.word.now s.path_a.now s.path_b.now s.output_x.now s.output_y.now s.shared

-- the witness has no more items than document 01 has
pub record WitnessFew (s : Shown) : Type 0 where
  pub word : length s.word.now ≤ most_steps
  pub path_a : length s.path_a.now ≤ most_steps
  pub path_b : length s.path_b.now ≤ most_steps
  pub output_x : length s.output_x.now ≤ most_shown
  pub output_y : length s.output_y.now ≤ most_shown
