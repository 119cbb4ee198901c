-- The numbers stand at the front of the list. Assumes nothing.
use Rattle.std.proofs.Common.{arith, refl, ◌≡◌, List, ℕ, ◌+◌, ◌++◌, length}
use borrow.Rule.Slice.PartMut.{post_of}
use Rattle.buffers.specs.Put.{put}
use Rattle.answers.proofs.put_numbers.Goals as goal

-- a part of n places at the front
front : (n : ℕ) (list part numbers : List ℕ) → n ≡ 0 + length numbers → part ≡ numbers → part ++ post_of 0 n list ≡ put list 0 numbers
unfolding put
front n list part numbers size same = rw (same, size) refl

pub returns : goal.returns
returns c = front _ _ _ _ (omega arith) c.copy_from_slice.ensures.after
