use Rattle.std.proofs.Common.{◌+◌, [], ◌∷◌, false, length, get_or}
use Rattle.buffers.proofs.Parts.{Parts}
use Rattle.held.specs.Held.{flag_of, flag_bytes}
use Rattle.held.proofs.put_set.Given as goal

-- the flags below q are put
abbrev pub invariant-loop-q : goal.invariant-loop-q
invariant-loop-q l =
    Parts (flag_bytes l.fn.set) (λ i. flag_of (get_or l.fn.set.member i false) ∷ []) (length l.fn.set.member) l.initial.out l.at l.q l.out (l.at + l.q)
