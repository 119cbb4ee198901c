-- What is known of a read: how much stands in the buffer, and that a failed read is not taken for an end. Which bytes came, no contract can say.
use Rattle.std.specs.Prelude.{◌≡◌, List, ◌⊎◌, ℕ, zero, suc, ◌+◌, ◌≤◌, min, length, take, Option, Some, None, Result, Ok, Err}
use Rattle.io.specs.Counts.{IsPrefixLen}
use Rattle.std.specs.declared.io.Error.{Error}
use Rattle.streams.specs.declared.Step.{Step}

-- what an input tells of the buffer: as many bytes as are counted stand at its front; nothing where a read failed
abbrev pub Told : Option ℕ → List ℕ → Type 0
Told (Some n) buf = IsPrefixLen n buf
Told None buf = Unit {0}

-- what a read that was handed `size` places and answered so came to: bytes, no more than the places; the end of the input where it answered 0; an
-- interruption or a failure where it answered an error, never an end
abbrev pub StepOf : Result ℕ Error → ℕ → Step → Type 0
StepOf (Ok zero) size r = r ≡ Step.Ended
StepOf (Ok (suc k)) size r = r ≡ Step.More (min (suc k) size)
StepOf (Err e) size r = (r ≡ Step.Interrupted) ⊎ (r ≡ Step.Failed e)

-- the bytes that a read from `at` on brings lie within a buffer of this size
abbrev pub Reaches : ℕ → Step → ℕ → Type 0
Reaches at (Step.More n) size = at + n ≤ size
Reaches at Step.Ended size = Unit {0}
Reaches at Step.Interrupted size = Unit {0}
Reaches at (Step.Failed e) size = Unit {0}

-- one read from `at` on: the places before hold what they held, and what comes lies within the buffer
pub record ReadOn (at : ℕ) (before after : List ℕ) (r : Step) : Type 0 where
  pub kept : take at after ≡ take at before
  pub reaches : Reaches at r (length after)
