-- `put_bytes` meets its contract. Assumes nothing.
use mathlib.Core.List.{append_assoc}
use Rattle.std.proofs.Common.{refl, sym, arith, ◌≡◌, ◌+◌, ◌-◌, length, take, drop}
use lib.Seq.{drop-drop}
use Rattle.buffers.specs.Put.{put}
use Rattle.buffers.proofs.put_bytes.Goals as goal

pub returns : goal.returns
unfolding put
returns c =
    let out = c.args.out.now in
    let at = c.args.at in
    let bytes = c.args.bytes.now in
    let size : at + length bytes - at ≡ length bytes = omega arith in
    record { buffer = rw (c.copy_from_slice.ensures.after, size, drop-drop (length bytes) at out) (sym (append_assoc (take at out) bytes (drop (at + length bytes) out))); place = refl }
