-- `number` meets its contract. Assumes nothing.
use mathlib.Core.Path.{◌≡◌, sym, ◌∙◌}
use mathlib.Core.Bool.{false, true≢false}
use mathlib.Core.Logic.{inl, inr, ⊎_elim}
use Prim.Native.Nat.{ℕ, ◌+◌, ◌<◌, ◌^◌}
use native.Mathlib.Decide.{dec_lt}
use Rattle.std.proofs.Common.{arith}
use Rattle.std.specs.Int.Bits.{bit_or}
use Rattle.transducer.specs.StateSet.{has, In}
use Rattle.transducer.specs.declared.StateSet.{StateSet}
use Rattle.transducer.proofs.Facts.{in_below}
use Rattle.transducer.proofs.StateSetLaws.{has_below}
use Rattle.useful.specs.Sets.{Has}
use Rattle.useful.proofs.SetLaws.{has_one, has_or}
use Rattle.useful.proofs.sets.number.Invariants.{Below}
use Rattle.useful.proofs.sets.number.Goals as goal
use Rattle.useful.proofs.sets.number.Goals.{then-inside, else-inside}

module _ {s : StateSet} where
  below_with : {n set : ℕ} → Below s n set → In s n → Below s (n + 1) (bit_or set (2 ^ n))
  below_with {n} {set} k i = record { members = λ q. (there q, λ h. back q h.0 h.1 (dec_lt q n)) }
    where
      there : (q : ℕ) → Has (bit_or set (2 ^ n)) q → (q < n + 1) × In s q
      there q h =
          ⊎_elim
          (λ (o : Has set q). let m = (k.members q).0 o in (omega (arith, m.0), m.1))
          (λ o. let e = (has_one n q).0 o in (omega (arith, e), rw (← e) i))
          ((has_or set (2 ^ n) q).0 h)

      back : (q : ℕ) → q < n + 1 → In s q → Dec (q < n) → Has (bit_or set (2 ^ n)) q
      back q b m (yes l) = (has_or set (2 ^ n) q).1 (inl ((k.members q).1 (l, m)))
      back q b m (no l) = (has_or set (2 ^ n) q).1 (inr ((has_one n q).1 (omega arith)))

  below_skip : {n set : ℕ} → Below s n set → has s n ≡ false → Below s (n + 1) set
  below_skip {n} {set} k e =
      record { members = λ q. (λ h. let m = (k.members q).0 h in (omega (arith, m.0), m.1), λ h. back q h.0 h.1 (dec_lt q n)) }
    where
      back : (q : ℕ) → q < n + 1 → In s q → Dec (q < n) → Has set q
      back q b m (yes l) = (k.members q).1 (l, m)
      back q b m (no l) = let z : n ≡ q = omega arith in absurd (true≢false (sym m ∙ rw (← z) e))

pub loop-q-preserved : goal.loop-q-preserved
loop-q-preserved c =
    elim c.if-inside.branch [
      | then-inside w ↦ rw (w.set-is, w.one-set.ensures) (below_with c.loop-q.invariant (has_below c.args.s c.loop-q.q c.loop-q-test.true ∙ w.if-inside.true))
      | else-inside w ↦ rw w.set-is (below_skip c.loop-q.invariant (has_below c.args.s c.loop-q.q c.loop-q-test.true ∙ w.if-inside.false))
    ]

pub returns : goal.returns
returns c =
    let k = c.loop-q.invariant in
    λ q. (λ h. ((k.members q).0 h).1, λ h. (k.members q).1 (omega (arith, in_below _ q h), h))
