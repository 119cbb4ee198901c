-- How a call that makes a table ends. Assumes nothing.
use mathlib.Core.Path.{◌≡◌, refl}
use mathlib.Core.List.{List}
use Prim.Native.Nat.{ℕ}
use native.Mathlib.Omega.{arith}
use Rattle.buffers.specs.Put.{put}
use Rattle.transducer.specs.Refusals.{refusal_number}
use Rattle.transducer.specs.declared.Transducer.{Transducer}
use Rattle.transducer.proofs.RefusalLaws.{refusal_number_some}
use Rattle.tablereader.specs.declared.FileRefusal.{FileRefusal}
use Rattle.held.specs.Held.{held_of}
use Rattle.answers.specs.Answers.{refusal_code, HeldIn}

-- nothing is refused
pub held_done : {t : Transducer} {h : List ℕ} → HeldIn (refusal_code 0 0) t h (put h 0 (held_of t)) 0
unfolding refusal_code
held_done = record { code = refl; refused = λ n. absurd (n refl); held = λ _. refl }

-- or something is
pub held_refused : (e : FileRefusal) {t : Transducer} {h : List ℕ} {r : ℕ} → r ≡ refusal_code (refusal_number e.refusal) e.«record»
    → HeldIn (refusal_code (refusal_number e.refusal) e.«record») t h h r
unfolding refusal_code
held_refused e code = record { code = code; refused = λ _. refl; held = λ z. absurd (refusal_number_some e.refusal (omega arith)) }
