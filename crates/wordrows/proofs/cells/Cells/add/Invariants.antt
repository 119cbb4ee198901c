use Rattle.std.proofs.Common.{◌≡◌, ℕ, ◌≤◌, ◌<◌, max, length, get_or}
use Rattle.transducer.specs.Limits.{most_states}
use Rattle.wordrows.proofs.cells.Cells.add.Given as goal

-- the first i places are done
abbrev pub invariant-loop-i : goal.invariant-loop-i
invariant-loop-i l = record {
  long : length l.marks ≡ most_states;
  done : (k : ℕ) → k < l.i → get_or l.marks k 0 ≡ max (get_or l.flags k 0) (get_or l.place-items k 0);
  rest : (k : ℕ) → l.i ≤ k → get_or l.marks k 0 ≡ get_or l.flags k 0;
}
