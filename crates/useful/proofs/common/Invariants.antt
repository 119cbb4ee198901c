-- Each state below q is in the set exactly where both have it.
use Rattle.std.proofs.Common.{◌≡◌, ℕ, ◌<◌, get_or, ◌&&◌, false}
use Rattle.useful.specs.Sets.{has_of}
use Rattle.useful.proofs.common.Given as goal

abbrev pub invariant-loop-q : goal.invariant-loop-q
invariant-loop-q l = (p : ℕ) → p < l.q → get_or l.inside-items p false ≡ (has_of l.a p && has_of l.b p)
