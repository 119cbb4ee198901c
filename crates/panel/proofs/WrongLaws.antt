-- A value whose kept set differs from the definition is refused as 8 by every call but the look. Assumes nothing.
use mathlib.Core.Path.{◌≡◌, refl, sym, ap, ◌∙◌}
use mathlib.Core.Bool.{Bool, true, false, true≢false, cond, ◌&&◌}
use mathlib.Core.List.{List}
use mathlib.Core.Logic.{◌↔◌}
use Prim.Native.Nat.{ℕ}
use native.Mathlib.Omega.{arith}
use borrow.Author.Tests.{ne_eqb}
use Rattle.transducer.specs.Refusals.{invalid, number_of}
use Rattle.transducer.specs.StateSet.{has, In, with_state, no_states}
use Rattle.transducer.specs.Blank.{blank_transducer}
use Rattle.transducer.specs.Useful.{UsefulState}
use Rattle.transducer.specs.Lines.{keeping_set}
use Rattle.transducer.specs.Accepted.{Kept, accepted_of}
use Rattle.transducer.specs.declared.StateSet.{StateSet}
use Rattle.transducer.specs.declared.Transducer.{Transducer}
use Rattle.transducer.proofs.Bools.{and_false, false_or}
use Rattle.transducer.proofs.StateSetLaws.{has_none, with_same}
use Rattle.transducer.proofs.WithinLaws.{Within, useful_state_within}
use Rattle.transducer.proofs.LineLaws.{set_valid}
use Rattle.transducer.proofs.AcceptedLaws.{accepted_kept}
use Rattle.product.specs.Numbers.{most_pairs}
use Rattle.std.specs.Prelude.{Result, Ok, Err}
use Rattle.transducer.specs.declared.refusals.Refusal.{Refusal}
use Rattle.pairs.specs.UsefulPairs.{no_pairs_of, count_true, found_of, UsefulPairsOf}
use Rattle.pairs.specs.declared.PairSet.{PairSet}
use Rattle.pairs.specs.declared.UsefulPairs.{UsefulPairs}
use Rattle.pairs.proofs.PairSetLaws.{count_none}
use Rattle.tablewriter.specs.Writing.{in_case}
use Rattle.edits.proofs.RowLaws.{one_refused}
use Rattle.series.specs.Join.{joined_of, JoinedOf, refusal_of}
use Rattle.translator.specs.Numbers as translation
use Rattle.translator.specs.Words as word
use Rattle.translator.specs.Translated.{Translated}
use Rattle.translator.proofs.TranslationLaws.{refused_length}
use Rattle.wordtest.specs.Words as words
use Rattle.witness.specs.Showing.{Buffers}
use Rattle.functionality.specs.Decided as verdict
use Rattle.functionality.specs.Decided.{useful_of, Decided}
use Rattle.functionality.specs.declared.Verdict.{Verdict}
use Rattle.functionality.proofs.DecidedLaws.{refused_zero}
use Rattle.panel.specs.Wrong.{RefusedAs8, WrongRefused}

-- a join of two of which one is not accepted
not_both : {first second : Transducer} {r : Result Transducer Refusal} → (accepted_of first && accepted_of second) ≡ false → JoinedOf first second r
    → (number_of r ≡ invalid) × (joined_of r ≡ blank_transducer)
unfolding refusal_of
not_both {first} {second} e h =
    let number : refusal_of first second h.joined ≡ invalid = rw e refl in
    (h.number ∙ number, h.table ∙ rw (ne_eqb (refusal_of first second h.joined) 0 (λ z. omega (arith, number))) refl)

module _ (t : Transducer) (a : accepted_of t ≡ false) where
  decided_8 : {b b' : Buffers} {r : Result Verdict Refusal} → Decided t b b' r → (number_of r ≡ invalid) × (useful_of r ≡ 0) × (b' ≡ b)
  unfolding verdict.refusal_of
  decided_8 {b} {r = r} h =
      let refusal : verdict.refusal_of t b ≡ invalid = rw a refl in
      let number = h.number ∙ refusal in
      (number, h.refused (λ z. omega (arith, refusal)), (h.unchanged (refused_zero r (λ z. omega (arith, number, z)))).0)

  translated_8 : {input out out' : List ℕ} {r : Result ℕ Refusal} → Translated t input out out' r
      → (number_of r ≡ invalid) × (translation.length_of r ≡ 0) × (out' ≡ out)
  unfolding word.refusal_of
  translated_8 {input} {r = r} h =
      let refusal : word.refusal_of t input ≡ invalid = rw a refl in
      let number : number_of r ≡ invalid = h.refused (λ z. omega (arith, refusal)) ∙ refusal in
      (number, refused_length r (λ z. omega (arith, number, z)), h.unchanged (λ z. omega (arith, number)))

  pairs_8 : {r : Result UsefulPairs Refusal} → UsefulPairsOf t r
      → (number_of r ≡ invalid) × ((found_of r).count ≡ 0) × ((found_of r).set ≡ no_pairs_of)
  unfolding no_pairs_of
  pairs_8 h =
      let none = h.refused a in
      (h.number ∙ rw a refl, h.counted ∙ ap (λ (s : PairSet). count_true s.member) none ∙ count_none most_pairs, none)

  refused : RefusedAs8 t
  unfolding in_case words.refusal_of
  refused =
      record {
        write = λ h. (h.number ∙ rw a refl, h.count ∙ rw a refl, h.buffer ∙ rw a refl);
        decide = decided_8;
        translate = translated_8;
        test = λ h. h.number ∙ rw a refl;
        useful_states = λ h. (h.number ∙ rw a refl, h.refused a);
        useful_pairs = pairs_8;
        edit = one_refused a;
        first = λ h. not_both (rw a refl) h;
        second = λ {first} h. not_both (rw a (and_false (accepted_of first))) h;
      }

-- ---- there are such values

-- a set that differs at state 0
other : StateSet → StateSet
other s = cond (has s 0) no_states (with_state no_states 0)

-- it has the same useful states
set_within : (t : Transducer) (s : StateSet) → Within t (keeping_set t s) × Within (keeping_set t s) t
set_within t s = (
  record { starts = λ q h. h; finals = λ q h. h; transitions = λ v m. m },
  record { starts = λ q h. h; finals = λ q h. h; transitions = λ v m. m },
)

other_wrong : (t : Transducer) → Kept t → Kept (keeping_set t (other t.useful)) → ⊥
unfolding other
other_wrong t kept kept' = go (has t.useful 0) refl
  where
    same : UsefulState t 0 ↔ UsefulState (keeping_set t (other t.useful)) 0
    same = let w = set_within t (other t.useful) in (useful_state_within w.0, useful_state_within w.1)

    go : (b : Bool) → has t.useful 0 ≡ b → ⊥
    go true e = let h = (kept' 0).1 (same.0 ((kept 0).0 e)) in true≢false (sym h ∙ rw e (has_none 0))
    go false e =
        let h : In (other t.useful) 0 = rw e (with_same no_states 0 refl (omega arith)) in
        true≢false (sym ((kept 0).1 (same.1 ((kept' 0).0 h))) ∙ e)

pub wrong_refused : WrongRefused
wrong_refused =
    record {
      refused = λ t wrong. refused t (false_or (accepted_of t) (λ e. wrong (accepted_kept t e)));
      there = λ t a. (other t.useful, (set_valid t (other t.useful)).1 a.valid, other_wrong t a.kept);
    }
