-- What the calls return: a file's refusal keeps to its bits, every other number is at most 100; and 8 comes exactly where what is held is not accepted.
-- Assumes nothing.
use mathlib.Core.Path.{◌≡◌, refl, sym, ◌∙◌}
use mathlib.Core.Bool.{Bool, true, false, true≢false, cond, ◌&&◌}
use mathlib.Core.List.{List, [], ◌∷◌}
use mathlib.Core.Logic.{◌≢◌, ◌↔◌}
use Prim.Native.Nat.{ℕ, ◌≤◌, ◌<◌, ◌/◌, ◌%◌}
use native.Mathlib.Decide.{ℕ_discrete}
use native.Mathlib.Omega.{arith}
use lib.Dec.{leb, ltb}
use lib.ListN.{length}
use Rattle.transducer.specs.Limits.{most_transitions}
use Rattle.std.specs.Prelude.{Result, Ok, Err}
use Rattle.transducer.specs.Refusals as refusal
use Rattle.transducer.specs.declared.refusals.Refusal.{Refusal}
use Rattle.transducer.specs.declared.refusals.Refusal.TheVariants.{Ended, WrongByte, NotANumber, OutOfRange, NotRising, BytesFollow, TooShort, Invalid, WordTooLong, NoInputCode, Unread, WordsTooLong, NoOutputCode, MoreThanOneCode, ManyPairs, ManyTransitions, NoSuchTransition, WrongTransition, ListTooShort}
use Rattle.transducer.specs.Refusals.{invalid, too_short_of, list_too_short, refusal_number, number_of as number, first_of}
use Rattle.transducer.specs.Valid.{line_of}
use Rattle.transducer.specs.Codes.{all_codes}
use Rattle.transducer.specs.Accepted.{accepted_of}
use Rattle.transducer.specs.Lines.{lines_of}
use Rattle.transducer.specs.declared.Transducer.{Transducer}
use Rattle.transducer.proofs.Bools.{and_left, and_right}
use Rattle.transducer.proofs.RefusalLaws.{first_has}
use Rattle.tablereader.specs.Reader.{read_of}
use Rattle.tablereader.proofs.Outcomes.{taken_record}
use Rattle.tablereader.proofs.ReadLaws.{read_record_lem, number_low}
use Rattle.tablewriter.specs.File.{write_of}
use Rattle.tablewriter.specs.Writing.{in_case}
use Rattle.wordsearch.specs.Limits.{most_word}
use Rattle.translator.specs.Words as translated
use Rattle.translator.specs.Translated.{Outcome, Translated}
use Rattle.wordtest.specs.Words as word
use Rattle.functionality.specs.Decided as decision
use Rattle.functionality.specs.Decided.{full_of}
use Rattle.witness.specs.Showing.{Buffers}
use Rattle.edits.specs.Edits as edit
use Rattle.edits.specs.Edits.{Edit, append, remove, line_refusal}
use Rattle.series.specs.Join as join
use Rattle.series.proofs.RefusalLaws.{not_invalid}
use Rattle.held.specs.Held.{table_in_of}
use Rattle.engine.specs.Engine.{number_of, record_of, Taken}
use Rattle.answers.specs.Answers.{refusal_code, file_code, room_fault, Flagged}
use Rattle.answers.specs.Answers.{verdict_answer, translate_answer, accepts_answer, pairs_answer, difference_answer, write_answer}
use Rattle.unit.specs.Calls.{Writes, Decides, Translates, Tests, FindsStates, FindsPairs, Edits, Joins}
use Rattle.unit.specs.Calls.{JoinGiven}
use Rattle.unit.specs.Laws as laws
use Rattle.unit.specs.Laws.{Asked, Returned}
use Rattle.unit.proofs.CallLaws.{holding, lent, line_lent, answer_lent, three_holding, call_has, answered, first_none}

-- ---- a file's refusal

number_told : (number at : ℕ) → number < 65536 → refusal_code number at % 65536 ≡ number
unfolding refusal_code
number_told number at h = omega arith

record_told : (number at : ℕ) → number < 65536 → refusal_code number at / 65536 ≡ at
unfolding refusal_code
record_told number at h = omega arith

file_low : (f : List ℕ) → file_code f < 2147483648
unfolding refusal_code
file_low f = omega (arith, number_low f, read_record_lem f)

file_not_8 : (f : List ℕ) → file_code f % 65536 ≢ invalid
file_not_8 f e =
    let low = number_low f in
    omega (arith, low, number_told (number_of f) (record_of f) (omega (arith, low)), e)

pub taken_code : (f : List ℕ) → Taken f → file_code f ≡ 0
unfolding refusal_code
taken_code f t = omega (arith, t, taken_record (read_of f) t)

pub code_taken : (f : List ℕ) → file_code f ≡ 0 → Taken f
unfolding refusal_code
code_taken f z = omega arith

-- ---- the numbers

-- a number is at most 100, and is 8 exactly where the value, whose test is x, is not accepted
record Told (x : Bool) (n : ℕ) : Type 0 where
  few : n ≤ 100
  broken : x ≡ false → n ≡ invalid
  whole : x ≡ true → n ≢ invalid

-- a number that is no refusal of the value
plain : {n : ℕ} → n ≤ 100 → n ≢ invalid → Told true n
plain few other = record { few = few; broken = λ e. absurd (true≢false e); whole = λ _. other }

-- by cases: 8 where the test fails, else such a number
by_test : (x : Bool) (n : ℕ) → Told true n → Told x (cond x n invalid)
by_test true n h = h
by_test false n h = record { few = omega arith; broken = λ _. refl; whole = λ e. absurd (true≢false (sym e)) }

other_number : (x : Bool) (n m : ℕ) → Told true n → Told true m → Told true (cond x n m)
other_number true n m h k = h
other_number false n m h k = k

none : Told true 0
none = plain (omega arith) (λ z. omega arith)

short : Told true too_short_of
short = plain (omega arith) (λ z. omega arith)

room : (n : ℕ) (list : List ℕ) → Told true (room_fault n list)
unfolding room_fault
room n list = other_number (ltb (length list) n) too_short_of 0 short none

-- such a number behind that of the value
then_other : (x : Bool) (fault : ℕ) (n : ℕ) → fault ≡ cond x 0 invalid → Told true n → Told x (first_of (fault ∷ n ∷ []))
unfolding first_of
then_other true fault n e h = rw e (first_has (Told true) n [] h none)
then_other false fault n e h = rw e (record { few = omega arith; broken = λ _. refl; whole = λ k. absurd (true≢false (sym k)) })

flagged : {x : Bool} {fault : ℕ} {members : List Bool} {flags flags' : List ℕ} {r : ℕ} → fault ≡ cond x 0 invalid
    → Flagged fault members flags flags' r → Told x r
flagged {x} {fault} {members} {flags} e h = rw h.code (then_other x fault _ e (room (length members) flags))

-- ---- of each call

writes : {t : Transducer} {out out' a a' : List ℕ} {r : ℕ} → Writes t out out' a a' r → Told (accepted_of t) r
unfolding in_case
writes {t} {out} h =
    rw (h.given.code ∙ h.wrote.number)
    (by_test (accepted_of t) _ (other_number (leb (length (write_of t)) (length out)) 0 too_short_of none short))

decides : {t : Transducer} {b b' : Buffers} {a a' : List ℕ} {r : ℕ} → Decides t b b' a a' r → Told (accepted_of t) r
unfolding decision.refusal_of
decides {t} {b} h = rw (h.given.code ∙ h.decided.number) (by_test (accepted_of t) _ (other_number (full_of b) 0 too_short_of none short))

tests : {t : Transducer} {input output a a' : List ℕ} {r : ℕ} → Tests t input output a a' r → Told (accepted_of t) r
unfolding word.refusal_of
tests {t} {input} {output} h =
    rw (h.given.code ∙ h.tested.number)
    (by_test (accepted_of t) _
    (other_number (word.short_of input output) _ _
    (other_number (all_codes input) _ _ (other_number (all_codes output) 0 refusal.no_output_code none (plain (omega arith) (λ z. omega arith))) (plain (omega arith) (λ z. omega arith)))
    (plain (omega arith) (λ z. omega arith))))

translates : {t : Transducer} {input out out' a a' : List ℕ} {r : ℕ} → Translates t input out out' a a' r → Told (accepted_of t) r
unfolding translated.refusal_of
translates {t} {input} {out} {out'} h = rw h.given.code (go (ℕ_discrete (translated.refusal_of t input) 0))
  where
    by : Translated t input out out' h.translation
    by = h.translated

    refused : Told (accepted_of t) (translated.refusal_of t input)
    refused =
        by_test (accepted_of t) _
        (other_number (leb (length input) most_word) _ _
        (other_number (all_codes input) 0 refusal.no_input_code none (plain (omega arith) (λ z. omega arith)))
        (plain (omega arith) (λ z. omega arith)))

    -- a word that is searched for
    found : Outcome t input out out' h.translation → Told true (number h.translation)
    found (Outcome.written y few fits n k o) = rw n none
    found (Outcome.unread never n) = rw n (plain (omega arith) (λ z. omega arith))
    found (Outcome.short y few long n) = rw n short

    go : Dec (translated.refusal_of t input ≡ 0) → Told (accepted_of t) (number h.translation)
    go (no n) = rw (by.refused n) refused
    go (yes e) =
        let f = found (by.answered e) in
        record {
          few = f.few;
          broken = λ x. absurd (let z = refused.broken x in omega (arith, z, e));
          whole = λ _. f.whole refl;
        }

states : {t : Transducer} {flags flags' : List ℕ} {r : ℕ} → FindsStates t flags flags' r → Told (accepted_of t) r
states h = flagged h.useful.number h.flagged

pairs_told : {t : Transducer} {flags flags' a a' : List ℕ} {r : ℕ} → FindsPairs t flags flags' a a' r → Told (accepted_of t) r
pairs_told h = flagged h.useful.number h.flagged

line_told : (n : ℕ) (t : Transducer) (e : Edit) → Told true (line_refusal n (lines_of t) e)
unfolding line_refusal
line_told n t (append v) =
    first_has (Told true) _ _ (other_number (line_of n v) 0 refusal.wrong_transition none (plain (omega arith) (λ z. omega arith)))
    (first_has (Told true) _ _
    (other_number (ltb (length (lines_of t)) most_transitions) 0 refusal.many_transitions none (plain (omega arith) (λ z. omega arith)))
    (first_none (Told true) none))
line_told n t (remove l) = other_number (ltb l (length (lines_of t))) 0 refusal.no_such_transition none (plain (omega arith) (λ z. omega arith))

edits : {t : Transducer} {e : Edit} {h h' : List ℕ} {r : ℕ} → Edits t e h h' r → Told (accepted_of t) r
unfolding edit.refusal_of
edits {t} {e} h = rw (h.held.code ∙ h.by.number) (then_other (accepted_of t) _ _ refl (line_told t.states t e))

refusal_few : (r : Refusal) → refusal_number r ≤ 100
refusal_few Ended = omega arith
refusal_few WrongByte = omega arith
refusal_few NotANumber = omega arith
refusal_few OutOfRange = omega arith
refusal_few NotRising = omega arith
refusal_few BytesFollow = omega arith
refusal_few TooShort = omega arith
refusal_few Invalid = omega arith
refusal_few WordTooLong = omega arith
refusal_few NoInputCode = omega arith
refusal_few Unread = omega arith
refusal_few WordsTooLong = omega arith
refusal_few NoOutputCode = omega arith
refusal_few MoreThanOneCode = omega arith
refusal_few ManyPairs = omega arith
refusal_few ManyTransitions = omega arith
refusal_few NoSuchTransition = omega arith
refusal_few WrongTransition = omega arith
refusal_few ListTooShort = omega arith

join_few : (r : Result Transducer Refusal) → number r ≤ 100
join_few (Ok t) = omega arith
join_few (Err refusal) = refusal_few refusal

joins : {first second : Transducer} {m m' : List ℕ} {r : ℕ} → Joins first second m m' r → Told (accepted_of first && accepted_of second) r
unfolding join.refusal_of
joins {first} {second} {r = r} h =
    let refusal : r ≡ join.refusal_of first second h.joins.joined = h.held.code ∙ h.joins.number in
    record {
      few = rw h.held.code (join_few h.joined);
      broken = λ e. refusal ∙ rw e refl;
      whole = λ e z. not_invalid first second h.joins.joined (and_left (accepted_of first) (accepted_of second) e) (and_right (accepted_of first) (accepted_of second) e) (sym refusal ∙ z);
    }

-- ---- the calls

-- so it is with every call on a held table that is not refused for a short list
asked_told : {h : List ℕ} {r : ℕ} → Asked h r → r ≢ list_too_short → Told (accepted_of (table_in_of h)) r
asked_told {h} (laws.write {a = a} g) n = writes (answered g.call (lent write_answer a h) n)
asked_told {h} (laws.verdict {a = a} g) n = decides (answered g.call (lent verdict_answer a h) n)
asked_told {h} (laws.translation {a = a} g) n = translates (answered g.call (lent translate_answer a h) n)
asked_told {h} (laws.accepts {a = a} g) n = tests (answered g.call (lent accepts_answer a h) n)
asked_told {h} (laws.states g) n = states (answered g.call (holding h) n)
asked_told {h} (laws.pairs {a = a} g) n = pairs_told (answered g.call (lent pairs_answer a h) n)
asked_told {h} (laws.append {line = line} g) n = edits (answered g.call (line_lent h line) n)
asked_told {h} (laws.remove g) n = edits (answered g.call (holding h) n)

join_told : {h g m m' : List ℕ} {r : ℕ} → JoinGiven h g m m' r → r ≢ list_too_short → Told (accepted_of (table_in_of h) && accepted_of (table_in_of g)) r
join_told {h} {g} {m} k n = joins (answered k.call (three_holding h g m) n)

-- so each is at most 100
few_told : {x : Bool} {r : ℕ} → (r ≢ list_too_short → Told x r) → r ≤ 100
few_told {r = r} told = go (ℕ_discrete r list_too_short)
  where
    go : Dec (r ≡ list_too_short) → r ≤ 100
    go (yes e) = omega arith
    go (no n) = (told n).few

exactly_8 : (x : Bool) {r : ℕ} → Told x r → (r ≡ invalid) ↔ (x ≡ false)
exactly_8 true h = (λ e. absurd (h.whole refl e), λ e. absurd (true≢false e))
exactly_8 false h = (λ _. refl, λ _. h.broken refl)

pub returned : Returned
returned =
    record {
      number_told = number_told;
      record_told = record_told;
      file_low = file_low;
      file_not_8 = file_not_8;
      taken_exactly = λ f. (code_taken f, taken_code f);
      read = λ long g. (g.call.answers long).code;
      asked = λ a. few_told (asked_told a);
      join = λ k. few_told (join_told k);
      look = λ {h} k. call_has k.call (holding h) (λ r. r ≤ 100) (omega arith) (λ _ f. (flagged {x = true} refl f).few);
      difference = λ {a = a} k. call_has k.call (answer_lent difference_answer a) (λ r. r ≤ 100) (omega arith) (λ _ f. omega (arith, f.code));
      broken = λ {h} a n. exactly_8 (accepted_of (table_in_of h)) (asked_told a n);
      join_broken = λ {h} {g} k n. exactly_8 (accepted_of (table_in_of h) && accepted_of (table_in_of g)) (join_told k n);
      look_not_8 = λ {h} k.
          call_has k.call (holding h) (λ r. r ≢ invalid) (λ z. omega arith) (λ _ f. (flagged {x = true} refl f).whole refl);
    }
