-- `clear_ok` meets its contract: a transition that is not in use holds 0 at every place. Assumes nothing.
use mathlib.Core.Path.{◌≡◌, refl, ap, ◌∙◌}
use mathlib.Core.Bool.{Bool, true, false, ◌&&◌}
use mathlib.Core.List.{List, [], ◌∷◌}
use native.Mathlib.Omega.{arith}
use borrow.Author.Tests.{eqb-true, le-ltb}
use lib.Dec.{eqb}
use lib.ListN.{length, replicate}
use lib.Pointwise.{pointwise}
use Rattle.std.proofs.Common.{rules}
use Rattle.std.specs.List.{list_all}
use Rattle.transducer.specs.Limits.{most_outputs}
use Rattle.transducer.specs.Valid.{all_below, code_at, code_of, codes_of, clear_of}
use Rattle.transducer.specs.declared.OutputCode.{OutputCode}
use Rattle.transducer.specs.declared.Transition.{Transition}
use Rattle.transducer.proofs.Bools.{and_four, all_same, all_listed}
use Rattle.transducer.proofs.validity.clear_ok.Goals as goal

-- every place of the output holds 0
abbrev zeros_of : Transition → Bool
zeros_of v = all_below most_outputs (λ j. eqb (code_at v j) 0)

-- where no code is counted, the codes are as they should be exactly when all are 0
none-counted : (v : Transition) → clear_of v ≡ true → zeros_of v ≡ codes_of v
unfolding clear_of codes_of code_of
none-counted v e =
    let count = eqb-true v.count 0 (and_four (eqb v.from 0) (eqb v.to 0) (eqb v.input.0 0) (eqb v.count 0) e).3 in
    all_same most_outputs (λ j. eqb (code_at v j) 0) (code_of v) (λ j. rw (le-ltb j v.count (omega arith)))

clear-zeros : (v : Transition) → (clear_of v && zeros_of v) ≡ (clear_of v && codes_of v)
clear-zeros v = go (clear_of v) refl
  where
    go : (b : Bool) → clear_of v ≡ b → (clear_of v && zeros_of v) ≡ (clear_of v && codes_of v)
    go true e = ap (λ x. clear_of v && x) (none-counted v e)
    go false e = rw e

-- codes that are compared with as many zeros
zeros-compared : (codes : List OutputCode) → pointwise (λ (a b : OutputCode). eqb a.0 b.0) codes (replicate (length codes) (record { 0 = 0 })) ≡ list_all (λ (x : OutputCode). eqb x.0 0) codes
zeros-compared [] = refl
zeros-compared (x ∷ codes) = ap (λ b. eqb x.0 0 && b) (zeros-compared codes)

-- its fields, compared one after the other
regrouped : (a b c d e f : Bool) → e ≡ f → (a && (b && (c && (d && e)))) ≡ (((a && b) && c) && d) && f
regrouped true b c d e f p = more b c d p
  where
    more : (b c d : Bool) {e f : Bool} → e ≡ f → (b && (c && (d && e))) ≡ (((b && c) && d) && f)
    more true true d p = ap (λ x. d && x) p
    more true false d p = refl
    more false c d p = refl
regrouped false b c d e f p = refl

pub returns : goal.returns
unfolding clear_of
returns c =
    let v = c.args.v in
    let long : length v.output ≡ most_outputs = search rules in
    let zeros = rw long at (zeros-compared v.output ∙ all_listed (λ (x : OutputCode). eqb x.0 0) (record { 0 = 0 }) v.output) in
    let e = rw c.clear.ensures at c.eq.ensures in
    e ∙ (regrouped (eqb v.from 0) (eqb v.to 0) (eqb v.input.0 0) (eqb v.count 0) _ _ zeros ∙ clear-zeros v)
