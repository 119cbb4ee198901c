use Rattle.std.proofs.Common.{◌≤◌, length}
use Rattle.streams.proofs.read.Given as goal

-- what was read so far stands within the buffer
abbrev pub invariant-loop : goal.invariant-loop
invariant-loop g l = l.done ≤ length l.buf
