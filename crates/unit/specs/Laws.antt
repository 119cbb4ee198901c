-- What holds of any results that meet the contracts of specs/Calls.antt: what is returned, and when it is 8; what a call leaves in memory is what the next
-- finds there, from file to file; what is returned and left is determined, but for what document 01 leaves open; alike tables are answered alike; and what
-- documents 01 and 02 say of the verdict, the word test, joins, edits and looks. `boundary` of proofs/Boundary.antt proves it.
use Rattle.std.specs.Prelude.{◌≡◌, true, false, ◌&&◌, ◌≢◌, ◌↔◌, ◌⊎◌, ℕ, ◌≤◌, ◌<◌, ◌/◌, ◌%◌, length, get_or, take, drop, Result, Ok}
use mathlib.Core.List.{List, [], ◌∷◌, Memᴰ}
use Rattle.buffers.specs.Put.{put}
use Rattle.words.specs.Difference.{shared_of}
use Rattle.records.specs.Letters.{most_fields}
use Rattle.transducer.specs.Refusals.{invalid, list_too_short}
use Rattle.transducer.specs.Paths.{Functional}
use Rattle.transducer.specs.Accepted.{accepted_of}
use Rattle.transducer.specs.Alike.{Alike}
use Rattle.transducer.specs.declared.Transducer.{Transducer}
use Rattle.tablereader.specs.Transitions.{transition_with}
use Rattle.held.specs.Held.{held_size, held_of, table_in_of}
use Rattle.edits.specs.Edits.{Edit, Whole}
use Rattle.edits.specs.Rows.{InARow}
use Rattle.series.specs.Composition.{InSeries}
use Rattle.series.specs.Join.{JoinedOf}
use Rattle.transducer.specs.declared.refusals.Refusal.{Refusal}
use Rattle.panel.specs.Makings.{Looks}
use Rattle.wordsearch.specs.Limits.{most_written}
use Rattle.witness.specs.Showing.{Buffers}
use Rattle.engine.specs.Engine.{Taken, table_of}
use Rattle.filelaws.specs.Rack.{EditedFrom}
use Rattle.filelaws.specs.Series.{FileInSeries}
use Rattle.answers.specs.Answers.{refusal_code, file_code}
use Rattle.unit.specs.Calls.{Holding, ReadGiven, WriteGiven, VerdictGiven, TranslationGiven, AcceptsGiven, StatesGiven, LookGiven, PairsGiven}
use Rattle.unit.specs.Calls.{AppendGiven, RemoveGiven, JoinGiven, DifferenceGiven}

-- ---- what is asked of a held table

-- a call on the table that h holds returned r, whatever else was lent; the look, which refuses no table, and the join, which takes two, are not among them
pub data Asked (h : List ℕ) (r : ℕ) : Type 0 where
  write : {out out' a a' : List ℕ} → WriteGiven h out out' a a' r → Asked h r
  verdict : {b b' : Buffers} {a a' : List ℕ} → VerdictGiven h b b' a a' r → Asked h r
  translation : {input out out' a a' : List ℕ} → TranslationGiven h input out out' a a' r → Asked h r
  accepts : {input output a a' : List ℕ} → AcceptsGiven h input output a a' r → Asked h r
  states : {flags flags' : List ℕ} → StatesGiven h flags flags' r → Asked h r
  pairs : {flags flags' a a' : List ℕ} → PairsGiven h flags flags' a a' r → Asked h r
  append : {line h' : List ℕ} → AppendGiven h line h' r → Asked h r
  remove : {l : ℕ} {h' : List ℕ} → RemoveGiven h l h' r → Asked h r

-- ---- held tables that calls made

-- memory into which a file was read or a join was put, then edited any number of times, refused edits included
pub data MadeIn : List ℕ → Type 0 where
  read : {f m h : List ℕ} → ReadGiven f m h 0 → MadeIn h
  joined : {first second m h : List ℕ} → JoinGiven first second m h 0 → MadeIn h
  appended : {g line h : List ℕ} {r : ℕ} → MadeIn g → AppendGiven g line h r → MadeIn h
  removed : {g h : List ℕ} {l r : ℕ} → MadeIn g → RemoveGiven g l h r → MadeIn h

-- edits in a row: from the memory h calls for these edits, each in the memory as the one before left it, return these numbers, and h' is what it holds in the
-- end. A line that is appended is handed over in all its places
pub data EditCalls : List ℕ → List Edit → List ℕ → List ℕ → Type 0 where
  no_call : {h h' : List ℕ} → h ≡ h' → EditCalls h [] [] h'
  append : {h g h' line : List ℕ} {e : Edit} {edits : List Edit} {r : ℕ} {returned : List ℕ} → e ≡ Edit.append (transition_with line) → most_fields ≤ length line
      → AppendGiven h line g r → EditCalls g edits returned h' → EditCalls h (e ∷ edits) (r ∷ returned) h'
  remove : {h g h' : List ℕ} {l : ℕ} {e : Edit} {edits : List Edit} {r : ℕ} {returned : List ℕ} → e ≡ Edit.remove l
      → RemoveGiven h l g r → EditCalls g edits returned h' → EditCalls h (e ∷ edits) (r ∷ returned) h'

-- what they return and leave is what the same edits make of the lines; the places behind the table hold what they held
pub record EditsInPlace (h : List ℕ) (edits : List Edit) (returned h' : List ℕ) : Type 0 where
  pub row : InARow (table_in_of h) edits returned (table_in_of h')
  pub behind : drop held_size h' ≡ drop held_size h

-- a join that is done
abbrev pub made_of : Transducer → Result Transducer Refusal
made_of t = Ok t

-- t is the two in series
pub record SeriesOf (first second t : Transducer) : Type 0 where
  pub joins : JoinedOf first second (made_of t)
  pub holds : InSeries first second (made_of t)

-- ---- two results

-- two verdicts are the same in all that document 01 settles
pub record SameVerdict (b₁ b₂ : Buffers) (a₁ a₂ : List ℕ) (r₁ r₂ : ℕ) : Type 0 where
  pub returned : r₁ ≡ r₂
  -- whether the table is split, and u
  pub front : take 2 a₁ ≡ take 2 a₂
  -- which witness is shown is free; where none is, all lists are the same
  pub unless_split : (r₁ ≡ 0 → get_or a₁ 0 0 ≡ 0) → (b₁ ≡ b₂) × (a₁ ≡ a₂)

-- how far the outputs agree that a verdict leaves in the buffers b', by its answer a', in which 5 and 6 are the places of their lengths; without a witness
-- they are empty
pub record OutputsAgree (b' : Buffers) (a' : List ℕ) : Type 0 where
  -- the last number is how many codes they have in common at the beginning
  pub shared : get_or a' 7 0 ≡ shared_of (take (get_or a' 5 0) b'.output_x) (take (get_or a' 6 0) b'.output_y)
  -- of a witness at least one of the two is longer than that
  pub below : get_or a' 0 0 ≢ 0 → (get_or a' 7 0 < get_or a' 5 0) ⊎ (get_or a' 7 0 < get_or a' 6 0)

-- a translation is done, and its output is the word `output`: the length stands in the answer list, the codes at the front of the buffer
pub record OutputGiven (output out' a' : List ℕ) (r : ℕ) : Type 0 where
  pub done : r ≡ 0
  pub size : get_or a' 0 0 ≡ length output
  pub codes : take (length output) out' ≡ output

-- two translations are the same refusal or the same output: its length in the answer list, its codes at the front of the buffer
pub record SameTranslation (out₁ out₂ a₁ a₂ : List ℕ) (r₁ r₂ : ℕ) : Type 0 where
  pub returned : r₁ ≡ r₂
  pub size : r₁ ≡ 0 → get_or a₁ 0 0 ≡ get_or a₂ 0 0
  pub codes : r₁ ≡ 0 → take (get_or a₁ 0 0) out₁ ≡ take (get_or a₂ 0 0) out₂

-- ---- the laws of the exported functions

-- what they return
pub record Returned : Type 0 where
  -- the low 16 bits of a file's refusal are its number, the 15 above the record's, and bit 31 is 0; 8 does not come from a file
  pub number_told : (number at : ℕ) → number < 65536 → refusal_code number at % 65536 ≡ number
  pub record_told : (number at : ℕ) → number < 65536 → refusal_code number at / 65536 ≡ at
  pub file_low : (f : List ℕ) → file_code f < 2147483648
  pub file_not_8 : (f : List ℕ) → file_code f % 65536 ≢ invalid
  -- `yotselina_check` returns 0 exactly where the file is taken, and with memory for a table `yotselina_read` returns the same
  pub taken_exactly : (f : List ℕ) → (file_code f ≡ 0) ↔ Taken f
  pub read : {f h h' : List ℕ} {r : ℕ} → Holding h → ReadGiven f h h' r → r ≡ file_code f
  -- every other call returns a number of at most 100
  pub asked : {h : List ℕ} {r : ℕ} → Asked h r → r ≤ 100
  pub join : {h g m m' : List ℕ} {r : ℕ} → JoinGiven h g m m' r → r ≤ 100
  pub look : {h flags flags' : List ℕ} {r : ℕ} → LookGiven h flags flags' r → r ≤ 100
  pub difference : {x y a a' : List ℕ} {r : ℕ} → DifferenceGiven x y a a' r → r ≤ 100
  -- unless a list is too short, each refuses with 8 exactly where what is held is not accepted; of the join, either; the look never does
  pub broken : {h : List ℕ} {r : ℕ} → Asked h r → r ≢ list_too_short → (r ≡ invalid) ↔ (accepted_of (table_in_of h) ≡ false)
  pub join_broken : {h g m m' : List ℕ} {r : ℕ} → JoinGiven h g m m' r → r ≢ list_too_short
      → (r ≡ invalid) ↔ ((accepted_of (table_in_of h) && accepted_of (table_in_of g)) ≡ false)
  pub look_not_8 : {h flags flags' : List ℕ} {r : ℕ} → LookGiven h flags flags' r → r ≢ invalid

-- a refusal leaves all that is lent (demand 1)
pub record RefusalLeaves : Type 0 where
  pub read : {f h h' : List ℕ} {r : ℕ} → ReadGiven f h h' r → r ≢ 0 → h' ≡ h
  pub write : {h out out' a a' : List ℕ} {r : ℕ} → WriteGiven h out out' a a' r → r ≢ 0 → (out' ≡ out) × (a' ≡ a)
  pub verdict : {h a a' : List ℕ} {b b' : Buffers} {r : ℕ} → VerdictGiven h b b' a a' r → r ≢ 0 → (b' ≡ b) × (a' ≡ a)
  pub translation : {h input out out' a a' : List ℕ} {r : ℕ} → TranslationGiven h input out out' a a' r → r ≢ 0 → (out' ≡ out) × (a' ≡ a)
  pub accepts : {h input output a a' : List ℕ} {r : ℕ} → AcceptsGiven h input output a a' r → r ≢ 0 → a' ≡ a
  pub states : {h flags flags' : List ℕ} {r : ℕ} → StatesGiven h flags flags' r → r ≢ 0 → flags' ≡ flags
  pub look : {h flags flags' : List ℕ} {r : ℕ} → LookGiven h flags flags' r → r ≢ 0 → flags' ≡ flags
  pub pairs : {h flags flags' a a' : List ℕ} {r : ℕ} → PairsGiven h flags flags' a a' r → r ≢ 0 → (flags' ≡ flags) × (a' ≡ a)
  pub append : {h line h' : List ℕ} {r : ℕ} → AppendGiven h line h' r → r ≢ 0 → h' ≡ h
  pub remove : {h h' : List ℕ} {l r : ℕ} → RemoveGiven h l h' r → r ≢ 0 → h' ≡ h
  pub join : {h g m m' : List ℕ} {r : ℕ} → JoinGiven h g m m' r → r ≢ 0 → m' ≡ m
  pub difference : {x y a a' : List ℕ} {r : ℕ} → DifferenceGiven x y a a' r → r ≢ 0 → a' ≡ a

-- the same call, twice, with the same lists
pub record Determined : Type 0 where
  pub read : {f h h₁ h₂ : List ℕ} {r₁ r₂ : ℕ} → ReadGiven f h h₁ r₁ → ReadGiven f h h₂ r₂ → (r₁ ≡ r₂) × (h₁ ≡ h₂)
  pub write : {h out out₁ out₂ a a₁ a₂ : List ℕ} {r₁ r₂ : ℕ} → WriteGiven h out out₁ a a₁ r₁ → WriteGiven h out out₂ a a₂ r₂
      → (r₁ ≡ r₂) × (out₁ ≡ out₂) × (a₁ ≡ a₂)
  pub verdict : {h a a₁ a₂ : List ℕ} {b b₁ b₂ : Buffers} {r₁ r₂ : ℕ} → VerdictGiven h b b₁ a a₁ r₁ → VerdictGiven h b b₂ a a₂ r₂
      → SameVerdict b₁ b₂ a₁ a₂ r₁ r₂
  -- on a split table the path that is followed is free
  pub translation : {h input out out₁ out₂ a a₁ a₂ : List ℕ} {r₁ r₂ : ℕ} → Functional (table_in_of h)
      → TranslationGiven h input out out₁ a a₁ r₁ → TranslationGiven h input out out₂ a a₂ r₂ → (r₁ ≡ r₂) × (out₁ ≡ out₂) × (a₁ ≡ a₂)
  pub accepts : {h input output a a₁ a₂ : List ℕ} {r₁ r₂ : ℕ} → AcceptsGiven h input output a a₁ r₁ → AcceptsGiven h input output a a₂ r₂
      → (r₁ ≡ r₂) × (a₁ ≡ a₂)
  pub states : {h flags flags₁ flags₂ : List ℕ} {r₁ r₂ : ℕ} → StatesGiven h flags flags₁ r₁ → StatesGiven h flags flags₂ r₂
      → (r₁ ≡ r₂) × (flags₁ ≡ flags₂)
  pub look : {h flags flags₁ flags₂ : List ℕ} {r₁ r₂ : ℕ} → LookGiven h flags flags₁ r₁ → LookGiven h flags flags₂ r₂ → (r₁ ≡ r₂) × (flags₁ ≡ flags₂)
  pub pairs : {h flags flags₁ flags₂ a a₁ a₂ : List ℕ} {r₁ r₂ : ℕ} → PairsGiven h flags flags₁ a a₁ r₁ → PairsGiven h flags flags₂ a a₂ r₂
      → (r₁ ≡ r₂) × (flags₁ ≡ flags₂) × (a₁ ≡ a₂)
  pub append : {h line h₁ h₂ : List ℕ} {r₁ r₂ : ℕ} → AppendGiven h line h₁ r₁ → AppendGiven h line h₂ r₂ → (r₁ ≡ r₂) × (h₁ ≡ h₂)
  pub remove : {h h₁ h₂ : List ℕ} {l r₁ r₂ : ℕ} → RemoveGiven h l h₁ r₁ → RemoveGiven h l h₂ r₂ → (r₁ ≡ r₂) × (h₁ ≡ h₂)
  pub join : {h g m m₁ m₂ : List ℕ} {r₁ r₂ : ℕ} → JoinGiven h g m m₁ r₁ → JoinGiven h g m m₂ r₂ → (r₁ ≡ r₂) × (m₁ ≡ m₂)
  pub difference : {x y a a₁ a₂ : List ℕ} {r₁ r₂ : ℕ} → DifferenceGiven x y a a₁ r₁ → DifferenceGiven x y a a₂ r₂ → (r₁ ≡ r₂) × (a₁ ≡ a₂)

-- all of them
pub record Boundary : Type 0 where
  pub returned : Returned
  pub refusal_leaves : RefusalLeaves
  pub determined : Determined
  -- ---- what is held
  -- a file that is read is held as its table, which is accepted; so is all that calls make of it, and a look at it shows the useful states
  pub read_holds : {f h h' : List ℕ} {r : ℕ} → ReadGiven f h h' r → r ≡ 0 → Taken f × (table_in_of h' ≡ table_of f)
  pub read_there : (f m : List ℕ) → Taken f → Holding m → ReadGiven f m (put m 0 (held_of (table_of f))) 0
  pub looks : {h : List ℕ} → MadeIn h → Looks (table_in_of h)
  pub look_shows : {h flags flags₁ flags₂ : List ℕ} {r₁ r₂ : ℕ} → MadeIn h → LookGiven h flags flags₁ r₁ → StatesGiven h flags flags₂ r₂
      → (r₁ ≡ r₂) × (flags₁ ≡ flags₂)
  -- demand 2: writing a read file gives its bytes, where there is room for them; reading a written table gives that table
  pub read_then_write : {f m h out out' a a' : List ℕ} {r s : ℕ} → ReadGiven f m h r → r ≡ 0 → WriteGiven h out out' a a' s → s ≢ list_too_short
      → length f ≤ length out → (s ≡ 0) × (out' ≡ put out 0 f) × (a' ≡ put a 0 (length f ∷ []))
  pub write_then_read : {h out out' a a' m m' : List ℕ} {r s : ℕ} → WriteGiven h out out' a a' r → r ≡ 0 → ReadGiven (take (get_or a' 0 0) out') m m' s
      → Holding m → (s ≡ 0) × (table_in_of m' ≡ table_in_of h)
  -- ---- the verdict and the translation
  -- the first number of the answer is 0 exactly where the table is functional: what the laws below ask of a table is what the verdict says of it
  pub verdict_means : {h a a' : List ℕ} {b b' : Buffers} {r : ℕ} → VerdictGiven h b b' a a' r → r ≡ 0 → (get_or a' 0 0 ≡ 0) ↔ Functional (table_in_of h)
  -- document 02, job 8: how far X and Y agree
  pub outputs_agree : {h a a' : List ℕ} {b b' : Buffers} {r : ℕ} → VerdictGiven h b b' a a' r → r ≡ 0 → OutputsAgree b' a'
  -- demand 3, the last two sentences: two tables that are alike. Their verdicts, where neither call is refused, have the same first two numbers
  pub alike_verdict : {h g a a' c c' : List ℕ} {b b' d d' : Buffers} {r s : ℕ} → Alike (table_in_of h) (table_in_of g)
      → VerdictGiven h b b' a a' r → r ≡ 0 → VerdictGiven g d d' c c' s → s ≡ 0 → take 2 a' ≡ take 2 c'
  -- and where they are single, lent the full 65,528 places, every word gets the same refusal or the same output
  pub alike_translation : {h g input out₁ out₁' a a' out₂ out₂' c c' : List ℕ} {r s : ℕ} → accepted_of (table_in_of h) ≡ true → accepted_of (table_in_of g) ≡ true
      → Alike (table_in_of h) (table_in_of g) → Functional (table_in_of h) → most_written ≤ length out₁ → most_written ≤ length out₂
      → TranslationGiven h input out₁ out₁' a a' r → r ≢ list_too_short → TranslationGiven g input out₂ out₂' c c' s → s ≢ list_too_short
      → SameTranslation out₁' out₂' a' c' r s
  -- document 02, job 1: for a single table, yes agrees with what the translator gives when lent the full 65,528 places; for words that the word test does
  -- not refuse
  pub agreement : {h input output a a' out out' c c' : List ℕ} {r s : ℕ} → Functional (table_in_of h) → AcceptsGiven h input output a a' r → r ≡ 0
      → most_written ≤ length out → TranslationGiven h input out out' c c' s → s ≢ list_too_short → (get_or a' 0 0 ≡ 1) ↔ OutputGiven output out' c' s
  -- ---- two tables in series (document 02, job 3)
  pub in_series : {h g m m' : List ℕ} {r : ℕ} → JoinGiven h g m m' r → r ≡ 0 → SeriesOf (table_in_of h) (table_in_of g) (table_in_of m')
  -- two tables that the verdict calls single are joined to one that it calls single
  pub single_join : {h g m m' : List ℕ} {r : ℕ} → JoinGiven h g m m' r → r ≡ 0
      → {b b' d d' e e' : Buffers} {i i' j j' k k' : List ℕ} {s t u : ℕ} → VerdictGiven h b b' i i' s → s ≡ 0 → get_or i' 0 0 ≡ 0
      → VerdictGiven g d d' j j' t → t ≡ 0 → get_or j' 0 0 ≡ 0 → VerdictGiven m' e e' k k' u → u ≡ 0 → get_or k' 0 0 ≡ 0
  -- tables that are alike are joined to tables that are alike, where neither call is refused
  pub alike_join : {h g m m' h₂ g₂ n n' : List ℕ} {r s : ℕ} → Alike (table_in_of h) (table_in_of h₂) → Alike (table_in_of g) (table_in_of g₂)
      → JoinGiven h g m m' r → r ≡ 0 → JoinGiven h₂ g₂ n n' s → s ≡ 0 → Alike (table_in_of m') (table_in_of n')
  -- from files to a file
  pub joined_file : {f₁ f₂ m₁ m₂ h g m m' out out' a a' : List ℕ} → ReadGiven f₁ m₁ h 0 → ReadGiven f₂ m₂ g 0 → JoinGiven h g m m' 0
      → WriteGiven m' out out' a a' 0 → FileInSeries f₁ f₂ (take (get_or a' 0 0) out')
  -- ---- edits in place (document 02, job 6), over every list of the two calls, refused ones included
  pub edits : {h h' : List ℕ} {edits : List Edit} {returned : List ℕ} → Holding h → accepted_of (table_in_of h) ≡ true → EditCalls h edits returned h'
      → EditsInPlace h edits returned h'
  -- there are such calls for every list of edits
  pub edits_there : (h : List ℕ) (edits : List Edit) → Holding h → accepted_of (table_in_of h) ≡ true → ((e : Edit) → Memᴰ e edits → Whole e)
      → (returned : List ℕ) × (h' : List ℕ) × EditCalls h edits returned h'
  -- from a file
  pub edited_file : {f m h h' : List ℕ} {edits : List Edit} {returned : List ℕ} → ReadGiven f m h 0 → EditCalls h edits returned h'
      → EditedFrom f edits returned (table_in_of h')
