-- The columns that are left, put into the list as it is now, give the same as all the columns in front of the last digit, put into the list as the loop
-- found it. Assumes nothing.
use Rattle.std.proofs.Common.{◌≡◌, ◌≤◌, ◌+◌, ◌-◌, length}
use Rattle.buffers.specs.Put.{put}
use Rattle.records.specs.Number.{leadings_of}
use Rattle.records.proofs.number.put_field.Given as goal

abbrev pub invariant-loop-left : goal.invariant-loop-left
invariant-loop-left l = record {
  puts : put l.out l.at (leadings_of l.left l.rest) ≡ put l.initial.out l.at (leadings_of (l.width - 1) l.initial.rest);
  same_length : length l.out ≡ length l.initial.out;
  room : l.at + l.width ≤ length l.out;
}
