use Rattle.std.proofs.Common.{[], ◌∷◌, map, false, length, get_or}
use Rattle.buffers.proofs.Parts.{Parts}
use Rattle.held.specs.Held.{flag_of}
use Rattle.answers.proofs.put_flags.Given as goal

-- the flags below i are put
abbrev pub invariant-loop-i : goal.invariant-loop-i
invariant-loop-i l = Parts (map flag_of l.flags) (λ i. flag_of (get_or l.flags i false) ∷ []) (length l.flags) l.initial.list 0 l.i l.list l.i
