-- How the calls meet their contracts: what is answered of a value where it stands in a list, or in memory. Assumes nothing.
use mathlib.Core.Path.{◌≡◌, refl, sym, ◌∙◌}
use mathlib.Core.Bool.{Bool}
use mathlib.Core.List.{List, [], ◌∷◌}
use mathlib.Core.Logic.{◌≢◌}
use Prim.Native.Nat.{ℕ}
use native.Mathlib.Omega.{arith}
use Rattle.std.specs.Prelude.{Result, Ok, Err}
use Rattle.std.specs.Result.{MatchResult, IsOkAnd}
use Rattle.transducer.specs.Refusals.{refusal_number, number_of}
use Rattle.transducer.specs.Valid.{Shaped}
use Rattle.transducer.specs.declared.StateSet.{StateSet}
use Rattle.transducer.specs.declared.Transducer.{Transducer}
use Rattle.transducer.specs.declared.refusals.Refusal.{Refusal}
use Rattle.transducer.proofs.BlankLaws.{blank_shaped}
use Rattle.transducer.proofs.RefusalLaws.{this_one, refusal_number_some}
use Rattle.tablereader.specs.Outcome as outcome
use Rattle.tablereader.specs.Outcome.{record_of, table_of_reading}
use Rattle.tablereader.specs.declared.FileRefusal.{FileRefusal}
use Rattle.held.specs.Held.{useful_at, set_at, table_in_of}
use Rattle.pairs.specs.UsefulPairs.{UsefulPairsOf, found_of}
use Rattle.pairs.specs.declared.UsefulPairs.{UsefulPairs}
use Rattle.engine.specs.Engine.{on_file}
use Rattle.answers.specs.Answers.{refusal_code, listed_of, Given, Flagged, HeldIn}
use Rattle.answers.specs.Answers.{pairs_answer}
use Rattle.unit.specs.Calls.{Call, Holding, Lent, LookGiven, PairsGiven}

-- no list is too short
pub begun : {Long Unchanged : Type 0} {Answers : ℕ → Type 0} {r : ℕ} → Long → Answers r → Call Long Unchanged Answers r
begun long answered = record { short = λ few. absurd (few long); answers = λ _. answered }

-- ---- flags

-- those of the set that is kept
pub look_given : {h flags flags' : List ℕ} {s : StateSet} {r : ℕ} → Holding h → s ≡ set_at h useful_at → Flagged 0 s.member flags flags' r
    → LookGiven h flags flags' r
unfolding table_in_of
look_given {h} {flags} {flags'} {r = r} long set flagged =
    let kept : Flagged 0 (set_at h useful_at).member flags flags' r = rw set at flagged in
    record { call = begun long kept }

-- those that are made of a value
pub flagged_as : {A : Type 0} (r : Result A Refusal) (members : Result A Refusal → List Bool) {P : A → List Bool → Type 0} (s : Result (List Bool) Refusal)
    {flags flags' : List ℕ} {n : ℕ} → ((x : A) (y : List Bool) → P x y → y ≡ members (Ok x)) → MatchResult r (λ x. IsOkAnd s (P x)) (λ e. s ≡ Err e)
    → Flagged (number_of s) (listed_of s) flags flags' n → Flagged (number_of r) (members r) flags flags' n
flagged_as (Ok x) members (Ok y) same made flagged = rw (same x y made) at flagged
flagged_as (Ok x) members (Err e) same made flagged = absurd made
flagged_as (Err e) members s {flags} {flags'} {n} same made flagged =
    let one : Flagged (refusal_number e) [] flags flags' n = rw made at flagged in
    let some = refusal_number_some e in
    let code : n ≡ refusal_number e = one.code ∙ sym (this_one _ refl some) in
    let other : n ≢ 0 = λ z. some (sym code ∙ z) in
    record { code = this_one _ code other; refused = one.refused; shown = λ z. absurd (other z) }

-- those of a refusal
pub flagged_refused : (e : Refusal) {members : List Bool} {flags : List ℕ} {n : ℕ} → n ≡ refusal_number e → Flagged (refusal_number e) members flags flags n
flagged_refused e {n = n} same =
    let other : n ≢ 0 = λ z. refusal_number_some e (sym same ∙ z) in
    record { code = this_one _ same other; refused = λ _. refl; shown = λ z. absurd (other z) }

-- ---- numbers

-- those that are made of a value
pub given_as : {A : Type 0} (r : Result A Refusal) (numbers : Result A Refusal → List ℕ) {P : A → List ℕ → Type 0} (s : Result (List ℕ) Refusal) {a a' : List ℕ}
    {n : ℕ} → ((x : A) (y : List ℕ) → P x y → y ≡ numbers (Ok x)) → MatchResult r (λ x. IsOkAnd s (P x)) (λ e. s ≡ Err e)
    → Given (number_of s) (listed_of s) a a' n → Given (number_of r) (numbers r) a a' n
given_as (Ok x) numbers (Ok y) same made given = rw (same x y made) at given
given_as (Ok x) numbers (Err e) same made given = absurd made
given_as (Err e) numbers s {a} {a'} {n} same made given =
    let one : Given (refusal_number e) [] a a' n = rw made at given in
    record { code = one.code; refused = one.refused; answered = λ z. absurd (refusal_number_some e (sym one.code ∙ z)) }

-- ---- the useful pairs: flags, then their count

module _ {h flags flags' a a' : List ℕ} {t : Transducer} {found : Result UsefulPairs Refusal} {n r : ℕ} (long : Lent pairs_answer a h)
    (table : t ≡ table_in_of h) (useful : UsefulPairsOf t found) (number : n ≡ number_of found)
    (flagged : Flagged n (found_of found).set.member flags flags' r)
  where
    given_pairs : Given r ((found_of found).count ∷ []) a a' r → PairsGiven h flags flags' a a' r
    given_pairs given =
        record { call = begun long (record { found = found; useful = rw table at useful; flagged = rw number at flagged; given = given }) }

    -- refused: the answer list is as it was
    pub pairs_refused : r ≢ 0 → a' ≡ a → PairsGiven h flags flags' a a' r
    pairs_refused n kept = given_pairs (record { code = refl; refused = λ _. kept; answered = λ z. absurd (n z) })

    -- or counted
    pub pairs_counted : {s : ℕ} → r ≡ 0 → Given 0 ((found_of found).count ∷ []) a a' s → PairsGiven h flags flags' a a' s
    pairs_counted none given =
        let done : PairsGiven h flags flags' a a' r =
        given_pairs (record { code = refl; refused = λ n. absurd (n none); answered = λ _. given.answered given.code })
        in
        rw (none ∙ sym given.code) at done

-- ---- tables that are made

-- one that a call hands over has its shape, also where it refuses
pub made_shaped : (r : Result Transducer Refusal) {s : Result Transducer FileRefusal} → s ≡ on_file r → ((t : Transducer) → r ≡ Ok t → Shaped t)
    → Shaped (table_of_reading s)
made_shaped (Ok t) same shaped = rw same (shaped t refl)
made_shaped (Err e) same shaped = rw same blank_shaped

-- it is held, or the refusal is returned as it is
pub held_as : (r : Result Transducer Refusal) (table : Result Transducer Refusal → Transducer) {s : Result Transducer FileRefusal} {h h' : List ℕ} {n : ℕ}
    → s ≡ on_file r → ((t : Transducer) → table (Ok t) ≡ t) → HeldIn (refusal_code (outcome.number_of s) (record_of s)) (table_of_reading s) h h' n
    → HeldIn (number_of r) (table r) h h' n
unfolding refusal_code
held_as (Ok t) table {h = h} {h'} {n} same made held =
    let one : HeldIn (refusal_code 0 0) t h h' n = rw same at held in
    record { code = one.code; refused = one.refused; held = rw (made t) one.held }
held_as (Err e) table {s} {h} {h'} {n} same made held =
    let code : n ≡ refusal_code (refusal_number e) 0 = rw same at held.code in
    let number : n ≡ refusal_number e = omega arith in
    record { code = number; refused = held.refused; held = λ z. absurd (refusal_number_some e (sym number ∙ z)) }
