-- The contract of `useful_states` determines its answer. Assumes nothing.
use mathlib.Core.Path.{◌≡◌, refl, sym, ap, ◌∙◌}
use mathlib.Core.Bool.{Bool, true, false}
use Rattle.std.specs.Prelude.{Result}
use Rattle.transducer.specs.StateSet.{has}
use Rattle.transducer.specs.Accepted.{accepted_of}
use Rattle.transducer.specs.declared.refusals.Refusal.{Refusal}
use Rattle.transducer.specs.declared.StateSet.{StateSet}
use Rattle.transducer.specs.declared.Transducer.{Transducer}
use Rattle.transducer.proofs.Bools.{same_flag}
use Rattle.transducer.proofs.StateSetLaws.{same_set}
use Rattle.transducer.proofs.RefusalLaws.{same_answer}
use Rattle.useful.specs.UsefulStates.{states_of, UsefulStatesOf}

-- any two answers that meet the contract for one transducer are the same
pub useful_states_determined : (t : Transducer) (r s : Result StateSet Refusal) → UsefulStatesOf t r → UsefulStatesOf t s → r ≡ s
useful_states_determined t r s h k =
    same_answer r s (h.number ∙ sym k.number) (λ a b x y. sym (ap states_of x) ∙ go (accepted_of t) refl ∙ ap states_of y)
  where
    go : (b : Bool) → accepted_of t ≡ b → states_of r ≡ states_of s
    go false e = h.refused e ∙ sym (k.refused e)
    go true e =
        same_set (states_of r) (states_of s) h.long k.long
        (λ q. same_flag (has (states_of r) q) (has (states_of s) q)
        (λ m. (k.members e q).1 ((h.members e q).0 m))
        (λ m. (h.members e q).1 ((k.members e q).0 m)))
