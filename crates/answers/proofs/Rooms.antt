-- What a call returns for a list that lacks places. Assumes nothing.
use mathlib.Core.Path.{◌≡◌}
use mathlib.Core.List.{List}
use Prim.Native.Nat.{ℕ, ◌≤◌, ◌<◌}
use borrow.Author.Tests.{lt-ltb, le-ltb}
use lib.ListN.{length}
use Rattle.transducer.specs.Refusals.{too_short_of}
use Rattle.answers.specs.Answers.{room_fault}

-- a list that has the places is no refusal
pub room : (n : ℕ) (list : List ℕ) → n ≤ length list → room_fault n list ≡ 0
unfolding room_fault
room n list h = rw (le-ltb (length list) n h)

-- a list that lacks some is
pub no_room : (n : ℕ) (list : List ℕ) → length list < n → too_short_of ≡ room_fault n list
unfolding room_fault
no_room n list h = rw (lt-ltb (length list) n h)
