-- `accepted` meets its contract: the test of the rules, then the comparison of the set that is kept with the one that is worked out. Assumes nothing.
use mathlib.Core.Path.{◌≡◌, refl, sym, ap, ◌∙◌}
use mathlib.Core.Bool.{Bool, true, false}
use Rattle.std.proofs.Common.{rules}
use Rattle.std.specs.Bool.{Decides}
use Rattle.std.specs.Cmp.{booleans_Decides}
use Rattle.std.proofs.lemmas.Slice.Eq.{slice_eq-Decides}
use Rattle.transducer.specs.StateSet.{has}
use Rattle.transducer.specs.Valid.{valid_of}
use Rattle.transducer.specs.Lines.{useful_in}
use Rattle.transducer.specs.Accepted.{same_states, accepted_of}
use Rattle.transducer.specs.declared.StateSet.{StateSet}
use Rattle.transducer.specs.declared.Transducer.{Transducer}
use Rattle.transducer.proofs.Bools.{same_flag}
use Rattle.transducer.proofs.Facts.{valid_exactly}
use Rattle.transducer.proofs.StateSetLaws.{Long, same_set}
use Rattle.transducer.proofs.AcceptedLaws.{asked, same_exactly}
use Rattle.useful.proofs.accepted.Goals as goal

-- a rule is broken
broken : (t : Transducer) → valid_of t ≡ false → false ≡ accepted_of t
unfolding accepted_of
broken t e = rw e refl

-- none is: the sets decide
compared : (t : Transducer) {s : StateSet} {r : Bool} → valid_of t ≡ true → s ≡ useful_in t → Long t.useful → Long s → Decides r (t.useful.member ≡ s.member)
    → r ≡ accepted_of t
unfolding accepted_of
compared t {s} {r} e worked kept_long long d =
    rw (e, ← worked)
    (same_flag r (same_states t.useful s)
    (λ h. (same_exactly t.useful s).1 (λ q. ap (λ (x : StateSet). has x q) (let m = d.0 h in λ i. record { member = m i })))
    (λ h. d.1 (ap (λ (x : StateSet). x.member) (same_set t.useful s kept_long long ((same_exactly t.useful s).0 h)))))

pub worked_out-requires : goal.worked_out-requires
worked_out-requires c = (valid_exactly _).0 (sym c.valid.ensures.answer ∙ c.if-valid.true)

pub returns-then-valid : goal.returns-then-valid
returns-then-valid c =
    asked _ c.valid.ensures.shaped
    (compared _ (sym c.valid.ensures.answer ∙ c.if-valid.true) c.worked_out.ensures (search rules) (search rules) (slice_eq-Decides booleans_Decides _ _ _ c.eq.ensures))

pub returns-else-valid : goal.returns-else-valid
returns-else-valid c = asked _ c.valid.ensures.shaped (c.if-valid.false ∙ broken _ (sym c.valid.ensures.answer ∙ c.if-valid.false))
