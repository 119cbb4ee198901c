-- Laws of words that are put into a buffer. Assumes nothing.
use mathlib.Core.Path.{◌≡◌}
use mathlib.Core.List.{List, ◌++◌, append_assoc, map-append}
use Prim.Native.Nat.{ℕ, ◌+◌, ◌≤◌}
use native.Mathlib.Nat.{zero-add}
use native.Mathlib.Omega.{arith}
use lib.ListN.{length, take, drop, length-append}
use lib.Seq.{drop_at, length-take-le}
use Rattle.buffers.specs.Put.{put}
use Rattle.transducer.specs.Transition.{OutputWord, bytes_of}
use Rattle.transducer.proofs.SizeLaws.{length_bytes}

-- what is put at the front of a list whose next elements were put
put_front : (d u w : List ℕ) → length u ≤ length d → put (put d (length u) w) 0 u ≡ put d 0 (u ++ w)
unfolding put
put_front d u w h =
    rw (
      zero-add,
      append_assoc (take (length u) d) w (drop (length u + length w) d),
      drop_at (take (length u) d) (w ++ drop (length u + length w) d) (length u) (length-take-le (length u) d h),
      ← append_assoc u w (drop (length u + length w) d),
      length-append u w,
      zero-add,
    )

-- a word whose end is put already is put whole once its beginning is
pub put_back : (d d' : List ℕ) (x y : OutputWord) → length x ≤ length d → d' ≡ put d (length x) (bytes_of y)
    → put d' 0 (bytes_of x) ≡ put d 0 (bytes_of (x ++ y))
put_back d d' x y h e =
    rw (e, map-append _ x y, ← length_bytes x) (put_front d (bytes_of x) (bytes_of y) (omega (arith, length_bytes x)))
