-- A refusal leaves all that is lent. Assumes nothing.
use mathlib.Core.Path.{◌≡◌, refl, ◌∙◌}
use mathlib.Core.Bool.{Bool, true, false, cond}
use mathlib.Core.List.{List}
use mathlib.Core.Logic.{◌≢◌, inl, inr}
use Prim.Native.Nat.{ℕ}
use lib.Dec.{leb}
use lib.ListN.{length}
use Rattle.buffers.specs.Put.{put}
use Rattle.std.specs.Prelude.{Result}
use Rattle.transducer.specs.Refusals.{invalid, too_short_of, number_of}
use Rattle.transducer.specs.declared.refusals.Refusal.{Refusal}
use Rattle.transducer.specs.Accepted.{accepted_of}
use Rattle.transducer.specs.declared.Transducer.{Transducer}
use Rattle.tablewriter.specs.File.{write_of}
use Rattle.tablewriter.specs.Writing.{in_case, Wrote}
use Rattle.functionality.proofs.DecidedLaws.{refused_zero}
use Rattle.answers.specs.Answers.{verdict_answer, translate_answer, accepts_answer, pairs_answer, difference_answer, write_answer}
use Rattle.unit.specs.Calls.{Call}
use Rattle.unit.specs.Laws.{RefusalLeaves}
use Rattle.unit.proofs.CallLaws.{OrNot, holding, lent, line_lent, answer_lent, three_holding}

-- a writing that is refused leaves the buffer
wrote_leaves : {t : Transducer} {out out' : List ℕ} {w : Result ℕ Refusal} → Wrote t out out' w → number_of w ≢ 0 → out' ≡ out
unfolding in_case
wrote_leaves {t} {out} h n = h.buffer ∙ go (accepted_of t) (leb (length (write_of t)) (length out)) (λ z. n (h.number ∙ z))
  where
    go : (x y : Bool) → cond x (cond y 0 too_short_of) invalid ≢ 0 → cond x (cond y (put out 0 (write_of t)) out) out ≡ out
    go true true k = absurd (k refl)
    go true false k = refl
    go false y k = refl

-- a call leaves what is lent where it returns 100, and where it answers with a refusal
leaves : {Long Kept : Type 0} {Answers : ℕ → Type 0} {r : ℕ} → Call Long Kept Answers r → OrNot Long → (Answers r → Kept) → Kept
leaves c (inl long) answered = answered (c.answers long)
leaves c (inr few) answered = (c.short few).1

pub refusal_leaves : RefusalLeaves
refusal_leaves =
    record {
      read = λ {h = h} g n. leaves g.call (holding h) (λ k. k.refused n);
      write = λ {h} {a = a} g n.
          leaves g.call (lent write_answer a h) (λ k. (wrote_leaves k.wrote (λ z. n (k.given.code ∙ z)), k.given.refused n));
      verdict = λ {h} {a} g n.
          leaves g.call (lent verdict_answer a h)
          (λ k. ((k.decided.unchanged (refused_zero k.verdict (λ z. n (k.given.code ∙ z)))).0, k.given.refused n));
      translation = λ {h} {a = a} g n.
          leaves g.call (lent translate_answer a h) (λ k. (k.translated.unchanged (λ z. n (k.given.code ∙ z)), k.given.refused n));
      accepts = λ {h} {a = a} g n. leaves g.call (lent accepts_answer a h) (λ k. k.given.refused n);
      states = λ {h} g n. leaves g.call (holding h) (λ k. k.flagged.refused n);
      look = λ {h} g n. leaves g.call (holding h) (λ k. k.refused n);
      pairs = λ {h} {a = a} g n. leaves g.call (lent pairs_answer a h) (λ k. (k.flagged.refused n, k.given.refused n));
      append = λ {h} {line} g n. leaves g.call (line_lent h line) (λ k. k.held.refused n);
      remove = λ {h} g n. leaves g.call (holding h) (λ k. k.held.refused n);
      join = λ {h} {g} {m} k n. leaves k.call (three_holding h g m) (λ j. j.held.refused n);
      difference = λ {a = a} g n. leaves g.call (answer_lent difference_answer a) (λ k. k.refused n);
    }
