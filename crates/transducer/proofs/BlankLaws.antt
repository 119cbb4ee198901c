-- The blank transducer is accepted, and relates nothing. Assumes nothing.
use mathlib.Core.Path.{◌≡◌, refl, sym, ◌∙◌}
use mathlib.Core.Bool.{true, true≢false}
use mathlib.Core.List.Memᴰ
use mathlib.Core.List.{[]}
use Prim.Native.Nat.{ℕ}
use native.Mathlib.Omega.{arith}
use Rattle.transducer.specs.StateSet.{has, In, no_states}
use Rattle.transducer.specs.Transition.{InputWord, OutputWord, firsts}
use Rattle.transducer.specs.Blank.{blank_transducer}
use Rattle.transducer.specs.Valid.{Shaped}
use Rattle.transducer.specs.Kept.{some_below, useful_of, useful_set}
use Rattle.transducer.specs.Lines.{transducer_of, Keeps}
use Rattle.transducer.specs.Paths.{Relates}
use Rattle.transducer.specs.Accepted.{accepted_of}
use Rattle.transducer.proofs.StateSetLaws.{has_none}
use Rattle.transducer.proofs.LineLaws.{made_shaped}
use Rattle.transducer.proofs.AcceptedLaws.{made_accepted}

-- it is made of no lines
blank_made : blank_transducer ≡ transducer_of 1 no_states no_states []
unfolding blank_transducer transducer_of useful_set firsts useful_of some_below has
blank_made = refl

none_in : (q : ℕ) → ¬ (In no_states q)
none_in q h = true≢false (sym h ∙ has_none q)

-- without a start state it relates nothing
pub blank_relates : {x : InputWord} {z : OutputWord} → ¬ (Relates blank_transducer x z)
unfolding blank_transducer
blank_relates r = none_in _ r.accepting.starts

blank_keeps : Keeps 1 no_states no_states []
blank_keeps =
    record {
      some_state = omega arith;
      few_states = omega arith;
      start_state = λ q h. absurd (none_in q h);
      final_state = λ q h. absurd (none_in q h);
      few_lines = omega arith;
      used = λ v m. absurd (Memᴰ.not-nil m);
    }

-- no state of it is useful, as the set says that it keeps
pub blank_accepted : accepted_of blank_transducer ≡ true
blank_accepted = rw blank_made ((made_accepted 1 no_states no_states []).1 blank_keeps)

pub blank_shaped : Shaped blank_transducer
blank_shaped = rw blank_made (made_shaped 1 no_states no_states [] refl refl (omega arith) (λ v m. absurd (Memᴰ.not-nil m)))
