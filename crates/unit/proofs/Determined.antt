-- The same call, twice, with the same lists: what is returned and left is the same, but for what document 01 leaves open. Assumes nothing.
use mathlib.Core.Path.{◌≡◌, refl, sym, ap, ◌∙◌}
use mathlib.Core.Bool.{Bool}
use mathlib.Core.List.{List, [], ◌∷◌}
use mathlib.Core.Logic.{◌≢◌}
use Prim.Native.Nat.{ℕ}
use lib.ListN.{get_or, take}
use Rattle.buffers.specs.Put.{put}
use Rattle.transducer.specs.Paths.{Functional}
use Rattle.transducer.specs.declared.Transducer.{Transducer}
use Rattle.transducer.proofs.Bools.{same_flag}
use Rattle.witness.specs.Showing.{Buffers}
use Rattle.std.specs.Prelude.{Result}
use Rattle.transducer.specs.Refusals.{number_of}
use Rattle.transducer.specs.declared.refusals.Refusal.{Refusal}
use Rattle.functionality.specs.Decided.{verdict_of, useful_of, Agree}
use Rattle.functionality.specs.declared.Verdict.{Verdict}
use Rattle.functionality.proofs.DecidedLaws.{refused_zero, decided_determined}
use Rattle.useful.specs.UsefulStates.{states_of}
use Rattle.useful.proofs.Determined.{useful_states_determined}
use Rattle.pairs.specs.UsefulPairs.{found_of}
use Rattle.pairs.proofs.PairSetLaws.{useful_pairs_determined}
use Rattle.translator.specs.Numbers as answer
use Rattle.translator.proofs.TranslationLaws.{translated_determined}
use Rattle.edits.specs.Edits.{Edit}
use Rattle.series.specs.Join.{joined_of}
use Rattle.series.proofs.SeriesLaws.{joined_determined}
use Rattle.answers.specs.Answers.{numbers_of, Given, Flagged, HeldIn}
use Rattle.answers.specs.Answers.{verdict_answer, translate_answer, accepts_answer, pairs_answer, difference_answer, write_answer}
use Rattle.held.specs.Held.{flag_of}
use Rattle.unit.specs.Calls.{Writes, Decides, Translates, Tests, FindsStates, FindsPairs, Edits, Joins}
use Rattle.unit.specs.Calls.{VerdictGiven}
use Rattle.unit.specs.Laws.{SameVerdict, Determined}
use Rattle.unit.proofs.CallLaws.{holding, lent, line_lent, answer_lent, three_holding, twice, either, same_left, front}

-- ---- how calls end

-- with the same refusal and the same numbers
given_same : {n₁ n₂ : ℕ} {k₁ k₂ a a₁ a₂ : List ℕ} {r₁ r₂ : ℕ} → n₁ ≡ n₂ → k₁ ≡ k₂ → Given n₁ k₁ a a₁ r₁ → Given n₂ k₂ a a₂ r₂ → (r₁ ≡ r₂) × (a₁ ≡ a₂)
given_same {a = a} number numbers h k =
    let same = h.code ∙ number ∙ sym k.code in
    (same, same_left same (λ z z'. h.answered z ∙ ap (put a 0) numbers ∙ sym (k.answered z')) h.refused k.refused)

-- with the same flags
pub flags_same : {n₁ n₂ : ℕ} {m₁ m₂ : List Bool} {l l₁ l₂ : List ℕ} {r₁ r₂ : ℕ} → n₁ ≡ n₂ → m₁ ≡ m₂ → Flagged n₁ m₁ l l₁ r₁ → Flagged n₂ m₂ l l₂ r₂
    → (r₁ ≡ r₂) × (l₁ ≡ l₂)
flags_same {m₂ = m₂} {l} {l₁} {r₁ = r₁} number members h k =
    let one : Flagged _ m₂ l l₁ r₁ = rw (number, members) at h in
    let same = one.code ∙ sym k.code in
    (same, same_left same (λ z z'. one.shown z ∙ sym (k.shown z')) one.refused k.refused)

-- with the same table
held_same : {n₁ n₂ : ℕ} {t₁ t₂ : Transducer} {h h₁ h₂ : List ℕ} {r₁ r₂ : ℕ} → n₁ ≡ n₂ → t₁ ≡ t₂ → HeldIn n₁ t₁ h h₁ r₁ → HeldIn n₂ t₂ h h₂ r₂
    → (r₁ ≡ r₂) × (h₁ ≡ h₂)
held_same {t₂ = t₂} {h} {h₁} {r₁ = r₁} number table a b =
    let one : HeldIn _ t₂ h h₁ r₁ = rw (number, table) at a in
    let same = one.code ∙ sym b.code in
    (same, same_left same (λ z z'. one.held z ∙ sym (b.held z')) one.refused b.refused)

-- ---- the answers

module _ {t : Transducer} where
  writes_same : {out out₁ out₂ a a₁ a₂ : List ℕ} {r₁ r₂ : ℕ} → Writes t out out₁ a a₁ r₁ → Writes t out out₂ a a₂ r₂
      → (r₁ ≡ r₂) × (out₁ ≡ out₂) × (a₁ ≡ a₂)
  writes_same h k =
      let given = given_same (h.wrote.number ∙ sym k.wrote.number) (ap (λ n. n ∷ []) (h.wrote.count ∙ sym k.wrote.count)) h.given k.given in
      (given.0, h.wrote.buffer ∙ sym k.wrote.buffer, given.1)

  translates_same : {input out out₁ out₂ a a₁ a₂ : List ℕ} {r₁ r₂ : ℕ} → Functional t → Translates t input out out₁ a a₁ r₁ → Translates t input out out₂ a a₂ r₂
      → (r₁ ≡ r₂) × (out₁ ≡ out₂) × (a₁ ≡ a₂)
  translates_same {out₂ = out₂} {a} {a₁} {r₁ = r₁} functional h k =
      let same = translated_determined functional h.translated k.translated in
      let given = given_same (ap number_of same.0) (ap (λ q. answer.length_of q ∷ []) same.0) h.given k.given in
      (given.0, same.1, given.1)

  tests_same : {input output a a₁ a₂ : List ℕ} {r₁ r₂ : ℕ} → Tests t input output a a₁ r₁ → Tests t input output a a₂ r₂ → (r₁ ≡ r₂) × (a₁ ≡ a₂)
  tests_same {a = a} h k =
      let number = h.tested.number ∙ sym k.tested.number in
      let same = h.given.code ∙ number ∙ sym k.given.code in (
        same,
        same_left same
            (λ z z'.
            let one = h.tested.answer (sym (h.given.code ∙ h.tested.number) ∙ z) in
            let other = k.tested.answer (sym (k.given.code ∙ k.tested.number) ∙ z') in
            let says = same_flag _ _ (λ e. other.1 (one.0 e)) (λ e. one.1 (other.0 e)) in
            h.given.answered z ∙ ap (λ s. put a 0 (flag_of s ∷ [])) says ∙ sym (k.given.answered z'))
            h.given.refused
            k.given.refused,
      )

  states_same : {flags flags₁ flags₂ : List ℕ} {r₁ r₂ : ℕ} → FindsStates t flags flags₁ r₁ → FindsStates t flags flags₂ r₂
      → (r₁ ≡ r₂) × (flags₁ ≡ flags₂)
  states_same h k =
      let same = useful_states_determined t h.found k.found h.useful k.useful in
      flags_same (ap number_of same) (ap (λ u. (states_of u).member) same) h.flagged k.flagged

  pairs_same : {flags flags₁ flags₂ a a₁ a₂ : List ℕ} {r₁ r₂ : ℕ} → FindsPairs t flags flags₁ a a₁ r₁ → FindsPairs t flags flags₂ a a₂ r₂
      → (r₁ ≡ r₂) × (flags₁ ≡ flags₂) × (a₁ ≡ a₂)
  pairs_same h k =
      let same = useful_pairs_determined h.useful k.useful in
      let shown = flags_same (ap number_of same) (ap (λ u. (found_of u).set.member) same) h.flagged k.flagged in
      let counted = given_same shown.0 (ap (λ u. (found_of u).count ∷ []) same) h.given k.given in
      (shown.0, shown.1, counted.1)

  edits_same : {e : Edit} {h h₁ h₂ : List ℕ} {r₁ r₂ : ℕ} → Edits t e h h₁ r₁ → Edits t e h h₂ r₂ → (r₁ ≡ r₂) × (h₁ ≡ h₂)
  edits_same a b =
      held_same (a.by.number ∙ sym b.by.number) (a.by.table ∙ sym b.by.table) a.held b.held

joins_same : {first second : Transducer} {m m₁ m₂ : List ℕ} {r₁ r₂ : ℕ} → Joins first second m m₁ r₁ → Joins first second m m₂ r₂
    → (r₁ ≡ r₂) × (m₁ ≡ m₂)
joins_same h k =
    let same = joined_determined h.joins k.joins in
    held_same (ap number_of same) (ap joined_of same) h.held k.held

-- ---- the verdict

-- the first two numbers of the answer
pub front_two : (a : List ℕ) (v : Result Verdict Refusal) → take 2 (put a 0 (numbers_of v)) ≡ verdict_of v ∷ useful_of v ∷ []
unfolding put numbers_of
front_two a v = refl

pub front_one : (a : List ℕ) (v : Result Verdict Refusal) → get_or (put a 0 (numbers_of v)) 0 0 ≡ verdict_of v
unfolding numbers_of
front_one a v = front a _ _

decides_same : {t : Transducer} {b b₁ b₂ : Buffers} {a a₁ a₂ : List ℕ} {r₁ r₂ : ℕ} → Decides t b b₁ a a₁ r₁ → Decides t b b₂ a a₂ r₂
    → SameVerdict b₁ b₂ a₁ a₂ r₁ r₂
decides_same {b₁ = b₁} {b₂} {a} {a₁} {a₂} {r₁} {r₂} h k = either r₁ done refused
  where
    agree : Agree b₁ b₂ h.verdict k.verdict
    agree = decided_determined h.decided k.decided

    same : r₁ ≡ r₂
    same = h.given.code ∙ agree.number ∙ sym k.given.code

    refused : r₁ ≢ 0 → SameVerdict b₁ b₂ a₁ a₂ r₁ r₂
    refused n =
        let single = refused_zero h.verdict (λ z. n (h.given.code ∙ z)) in
        let lists = h.given.refused n ∙ sym (k.given.refused (λ z. n (same ∙ z))) in
        record { returned = same; front = ap (take 2) lists; unless_split = λ _. ((agree.unless_split single).1, lists) }

    done : r₁ ≡ 0 → SameVerdict b₁ b₂ a₁ a₂ r₁ r₂
    done z =
        let one = h.given.answered z in
        let other = k.given.answered (sym same ∙ z) in
        record {
          returned = same;
          front =
              ap (take 2) one ∙ front_two a h.verdict
              ∙ (λ i. agree.verdict i ∷ agree.useful i ∷ [])
              ∙ sym (ap (take 2) other ∙ front_two a k.verdict);
          unless_split = λ first.
              let whole = agree.unless_split (sym (ap (λ l. get_or l 0 0) one ∙ front_one a h.verdict) ∙ first z) in
              (whole.1, one ∙ ap (λ v. put a 0 (numbers_of v)) whole.0 ∙ sym other);
        }

-- ---- the calls

-- where 100 is returned, a list is left as it was
left_same : {l l₁ l₂ : List ℕ} → l₁ ≡ l → l₂ ≡ l → l₁ ≡ l₂
left_same one other = one ∙ sym other

verdict_same : {h a a₁ a₂ : List ℕ} {b b₁ b₂ : Buffers} {r₁ r₂ : ℕ} → VerdictGiven h b b₁ a a₁ r₁ → VerdictGiven h b b₂ a a₂ r₂
    → SameVerdict b₁ b₂ a₁ a₂ r₁ r₂
verdict_same {h} {a} one other =
    twice one.call other.call (lent verdict_answer a h) decides_same
    (λ same _ k k'. let lists = left_same k.1 k'.1 in
    record { returned = same; front = ap (take 2) lists; unless_split = λ _. (k.0 ∙ sym k'.0, lists) })

pub determined : Determined
determined =
    record {
      read = λ {h = h} one other.
          twice one.call other.call (holding h) (held_same refl refl) (λ same _ k k'. (same, left_same k k'));
      write = λ {h} {a = a} one other.
          twice one.call other.call (lent write_answer a h) writes_same
          (λ same _ k k'. (same, left_same k.0 k'.0, left_same k.1 k'.1));
      verdict = verdict_same;
      translation = λ {h} {a = a} functional one other.
          twice one.call other.call (lent translate_answer a h) (translates_same functional)
          (λ same _ k k'. (same, left_same k.0 k'.0, left_same k.1 k'.1));
      accepts = λ {h} {a = a} one other.
          twice one.call other.call (lent accepts_answer a h) tests_same (λ same _ k k'. (same, left_same k k'));
      states = λ {h} one other. twice one.call other.call (holding h) states_same (λ same _ k k'. (same, left_same k k'));
      look = λ {h} one other. twice one.call other.call (holding h) (flags_same refl refl) (λ same _ k k'. (same, left_same k k'));
      pairs = λ {h} {a = a} one other.
          twice one.call other.call (lent pairs_answer a h) pairs_same
          (λ same _ k k'. (same, left_same k.0 k'.0, left_same k.1 k'.1));
      append = λ {h} {line} one other.
          twice one.call other.call (line_lent h line) edits_same (λ same _ k k'. (same, left_same k k'));
      remove = λ {h} one other. twice one.call other.call (holding h) edits_same (λ same _ k k'. (same, left_same k k'));
      join = λ {h} {g} {m} one other.
          twice one.call other.call (three_holding h g m) joins_same (λ same _ k k'. (same, left_same k k'));
      difference = λ {a = a} one other.
          twice one.call other.call (answer_lent difference_answer a) (given_same refl refl) (λ same _ k k'. (same, left_same k k'));
    }
