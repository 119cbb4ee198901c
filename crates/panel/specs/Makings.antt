-- Transducers that the calls made (document 02, job 7): "Every call that makes a table .. leaves it equal to the definition ..; for a table that those calls
-- made, that is the set of useful states." The makings have any number of calls, in any order, refused ones included.
use Rattle.std.specs.Prelude.{◌≡◌, true, List, ◌↔◌, ◌⊎◌, ℕ, Result}
use Rattle.transducer.specs.Refusals.{invalid, number_of}
use Rattle.transducer.specs.StateSet.{In}
use Rattle.transducer.specs.Blank.{blank_transducer}
use Rattle.transducer.specs.Valid.{Shaped}
use Rattle.transducer.specs.Useful.{UsefulState}
use Rattle.transducer.specs.Accepted.{Kept, accepted_of}
use Rattle.transducer.specs.declared.Transducer.{Transducer}
use Rattle.transducer.specs.declared.refusals.Refusal.{Refusal}
use Rattle.tablereader.specs.Outcome.{table_of_reading}
use Rattle.tablereader.specs.Reader.{read_of}
use Rattle.edits.specs.Edits.{Edit, Whole, edited_of, EditedBy}
use Rattle.series.specs.Join.{joined_of, JoinedOf}

-- ---- makings

-- which calls are made: the blank transducer; the reading of a file, whatever its bytes; an edit of what was made, a line having all its places as every
-- value of the type has them; a join of two that were made
pub data Making : Type 0 where
  blank : Making
  read : List ℕ → Making
  edited : Making → (e : Edit) → Whole e → Making
  joined : Making → Making → Making

-- the calls hand over t: each answers as its contract says, whether it refuses or not
abbrev pub MadeBy : Making → Transducer → Type 0
MadeBy blank t = t ≡ blank_transducer
MadeBy (read text) t = t ≡ table_of_reading (read_of text)
MadeBy (edited m e w) t = (t' : Transducer) × (r : Result Transducer Refusal) × MadeBy m t' × EditedBy t' e r × (t ≡ edited_of t' r)
MadeBy (joined m m') t =
    (first : Transducer) × (second : Transducer) × (r : Result Transducer Refusal)
    × MadeBy m first × MadeBy m' second × JoinedOf first second r × (t ≡ joined_of r)

-- ---- the statement

-- what a look at such a transducer shows: `look` answers t.useful
pub record Looks (t : Transducer) : Type 0 where
  pub useful : (q : ℕ) → In t.useful q ↔ UsefulState t q
  -- and no call refuses it as 8
  pub accepted : accepted_of t ≡ true
  pub shaped : Shaped t

-- so it is with all that is made; and every making makes something, and one thing only
pub record LooksUseful : Type 0 where
  pub looks : (m : Making) (t : Transducer) → MadeBy m t → Looks t
  pub there : (m : Making) → (t : Transducer) × MadeBy m t
  pub determined : (m : Making) (t t' : Transducer) → MadeBy m t → MadeBy m t' → t ≡ t'

-- ---- each call that makes a transducer, given any value

-- an edit leaves the set equal to the definition, unless it refuses as 8 and hands the transducer back
pub record EditKeeps (t : Transducer) (r : Result Transducer Refusal) : Type 0 where
  pub keeps : ((number_of r ≡ invalid) × (edited_of t r ≡ t)) ⊎ Kept (edited_of t r)

-- the other calls always do
pub record MakersKeep : Type 0 where
  pub blank : Kept blank_transducer
  pub read : (text : List ℕ) → Kept (table_of_reading (read_of text))
  pub edit : {t : Transducer} {e : Edit} {r : Result Transducer Refusal} → EditedBy t e r → EditKeeps t r
  pub join : {first second : Transducer} {r : Result Transducer Refusal} → JoinedOf first second r → Kept (joined_of r)
