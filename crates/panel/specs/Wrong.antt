-- A value whose kept set differs from the definition (document 02, job 7): it "is refused as 8. Only the panel's look .. checks nothing". Each contract of a
-- call that takes a table says so; here they stand together.
use Rattle.std.specs.Prelude.{◌≡◌, Bool, List, ℕ, Result}
use Rattle.transducer.specs.Refusals.{invalid, number_of}
use Rattle.transducer.specs.Blank.{blank_transducer}
use Rattle.transducer.specs.StateSet.{no_states}
use Rattle.transducer.specs.Valid.{Valid}
use Rattle.transducer.specs.Lines.{keeping_set}
use Rattle.transducer.specs.Accepted.{Kept, Accepted}
use Rattle.transducer.specs.declared.StateSet.{StateSet}
use Rattle.transducer.specs.declared.Transducer.{Transducer}
use Rattle.transducer.specs.declared.refusals.Refusal.{Refusal}
use Rattle.useful.specs.UsefulStates.{states_of, UsefulStatesOf}
use Rattle.pairs.specs.UsefulPairs.{no_pairs_of, found_of, UsefulPairsOf}
use Rattle.pairs.specs.declared.UsefulPairs.{UsefulPairs}
use Rattle.tablewriter.specs.Writing as writing
use Rattle.tablewriter.specs.Writing.{Wrote}
use Rattle.edits.specs.Edits.{Edit, edited_of, EditedBy}
use Rattle.series.specs.Join.{joined_of, JoinedOf}
use Rattle.translator.specs.Numbers as translation
use Rattle.translator.specs.Translated.{Translated}
use Rattle.wordtest.specs.Tested.{Tested}
use Rattle.witness.specs.Showing.{Buffers}
use Rattle.functionality.specs.Decided.{useful_of, Decided}
use Rattle.functionality.specs.declared.Verdict.{Verdict}

-- every call that takes the table t refuses it as 8: a length and u are 0, sets are empty, and no buffer changes
pub record RefusedAs8 (t : Transducer) : Type 0 where
  pub write : {out out' : List ℕ} {r : Result ℕ Refusal} → Wrote t out out' r → (number_of r ≡ invalid) × (writing.length_of r ≡ 0) × (out' ≡ out)
  pub decide : {b b' : Buffers} {r : Result Verdict Refusal} → Decided t b b' r → (number_of r ≡ invalid) × (useful_of r ≡ 0) × (b' ≡ b)
  pub translate : {input out out' : List ℕ} {r : Result ℕ Refusal} → Translated t input out out' r
      → (number_of r ≡ invalid) × (translation.length_of r ≡ 0) × (out' ≡ out)
  pub test : {input output : List ℕ} {r : Result Bool Refusal} → Tested t input output r → number_of r ≡ invalid
  pub useful_states : {r : Result StateSet Refusal} → UsefulStatesOf t r → (number_of r ≡ invalid) × (states_of r ≡ no_states)
  pub useful_pairs : {r : Result UsefulPairs Refusal} → UsefulPairsOf t r
      → (number_of r ≡ invalid) × ((found_of r).count ≡ 0) × ((found_of r).set ≡ no_pairs_of)
  -- an edit hands it back
  pub edit : {e : Edit} {r : Result Transducer Refusal} → EditedBy t e r → (number_of r ≡ invalid) × (edited_of t r ≡ t)
  -- a join hands over the blank table, whichever of the two is wrong
  pub first : {second : Transducer} {r : Result Transducer Refusal} → JoinedOf t second r → (number_of r ≡ invalid) × (joined_of r ≡ blank_transducer)
  pub second : {first : Transducer} {r : Result Transducer Refusal} → JoinedOf first t r → (number_of r ≡ invalid) × (joined_of r ≡ blank_transducer)

-- so it is where the kept set differs from the definition; and every value that is accepted is, with another set, one that keeps the rules and is refused
pub record WrongRefused : Type 0 where
  pub refused : (t : Transducer) → (Kept t → ⊥) → RefusedAs8 t
  pub there : (t : Transducer) → Accepted t → (s : StateSet) × Valid (keeping_set t s) × (Kept (keeping_set t s) → ⊥)
