-- What each exported function returns and leaves. h, g and m are memories in which tables are held, f a file, x, y, input and output words, b the verdict's
-- buffers, a the answer list; a name with a prime is what that list holds afterwards. Each record has the contract of the call on table values for
-- `table_in_of` of what is lent, and how its answer is put into the lists; a refusal, a number other than 0, leaves all of them.
use Rattle.std.specs.Prelude.{◌≡◌, Bool, List, [], ◌∷◌, ℕ, ◌≤◌, length, Result}
use Rattle.words.specs.Difference.{difference_of, carried_of}
use Rattle.transducer.specs.Refusals.{list_too_short, number_of}
use Rattle.transducer.specs.declared.StateSet.{StateSet}
use Rattle.transducer.specs.declared.Transducer.{Transducer}
use Rattle.transducer.specs.declared.refusals.Refusal.{Refusal}
use Rattle.records.specs.Letters.{most_fields}
use Rattle.tablereader.specs.Transitions.{transition_with}
use Rattle.tablewriter.specs.Writing as file
use Rattle.tablewriter.specs.Writing.{Wrote}
use Rattle.held.specs.Held.{flag_of, held_size, table_in_of}
use Rattle.useful.specs.UsefulStates.{states_of, UsefulStatesOf}
use Rattle.pairs.specs.UsefulPairs.{found_of, UsefulPairsOf}
use Rattle.pairs.specs.declared.UsefulPairs.{UsefulPairs}
use Rattle.translator.specs.Numbers as answer
use Rattle.translator.specs.Translated.{Translated}
use Rattle.wordtest.specs.Numbers as test
use Rattle.wordtest.specs.Tested.{Tested}
use Rattle.witness.specs.Showing.{Buffers}
use Rattle.functionality.specs.Decided.{Decided}
use Rattle.functionality.specs.declared.Verdict.{Verdict}
use Rattle.engine.specs.Engine.{table_of}
use Rattle.edits.specs.Edits.{Edit, edited_of, EditedBy}
use Rattle.series.specs.Join.{joined_of, JoinedOf}
use Rattle.answers.specs.Answers.{file_code, kind_of, numbers_of, Given, Flagged, HeldIn}
use Rattle.answers.specs.Answers.{verdict_answer, translate_answer, accepts_answer, pairs_answer, difference_answer, write_answer}

-- the version of the calls, of their answers and of held tables: 2.0, the first number in the upper 16 bits
abbrev pub version : ℕ
version = 131072

-- ---- lists of fixed size

-- a call needs lists that are long enough before it can begin: where one is too short it returns 100 before anything else, and nothing that is lent changes;
-- else it answers
pub record Call (Long Unchanged : Type 0) (Answers : ℕ → Type 0) (r : ℕ) : Type 0 where
  pub short : (Long → ⊥) → (r ≡ list_too_short) × Unchanged
  pub answers : Long → Answers r

-- the memory has the places of a held table
abbrev pub Holding : List ℕ → Type 0
Holding h = held_size ≤ length h

-- and the answer list has n places
abbrev pub Lent : ℕ → List ℕ → List ℕ → Type 0
Lent n a h = (n ≤ length a) × Holding h

-- ---- a file into memory, and out of it

-- what `yotselina_read` returns and leaves: the file's table is held
pub record ReadGiven (f h h' : List ℕ) (r : ℕ) : Type 0 where
  pub call : Call (Holding h) (h' ≡ h) (HeldIn (file_code f) (table_of f) h h') r

-- the file of t is written, and its byte count answered
pub record Writes (t : Transducer) (out out' a a' : List ℕ) (r : ℕ) : Type 0 where
  pub writing : Result ℕ Refusal
  pub wrote : Wrote t out out' writing
  pub given : Given (number_of writing) (file.length_of writing ∷ []) a a' r

-- what `yotselina_write` returns and leaves
pub record WriteGiven (h out out' a a' : List ℕ) (r : ℕ) : Type 0 where
  pub call : Call (Lent write_answer a h) ((out' ≡ out) × (a' ≡ a)) (Writes (table_in_of h) out out' a a') r

-- ---- the verdict

-- the verdict on t, and its eight numbers
pub record Decides (t : Transducer) (b b' : Buffers) (a a' : List ℕ) (r : ℕ) : Type 0 where
  pub verdict : Result Verdict Refusal
  pub decided : Decided t b b' verdict
  pub given : Given (number_of verdict) (numbers_of verdict) a a' r

-- what `yotselina_verdict` returns and leaves
pub record VerdictGiven (h : List ℕ) (b b' : Buffers) (a a' : List ℕ) (r : ℕ) : Type 0 where
  pub call : Call (Lent verdict_answer a h) ((b' ≡ b) × (a' ≡ a)) (Decides (table_in_of h) b b' a a') r

-- ---- the translation and the word test

-- the translation of a word by t, and the length of its output
pub record Translates (t : Transducer) (input out out' a a' : List ℕ) (r : ℕ) : Type 0 where
  pub translation : Result ℕ Refusal
  pub translated : Translated t input out out' translation
  pub given : Given (number_of translation) (answer.length_of translation ∷ []) a a' r

-- what `yotselina_translate` returns and leaves
pub record TranslationGiven (h input out out' a a' : List ℕ) (r : ℕ) : Type 0 where
  pub call : Call (Lent translate_answer a h) ((out' ≡ out) × (a' ≡ a)) (Translates (table_in_of h) input out out' a a') r

-- the test of two words by t, 1 for yes and 0 for no
pub record Tests (t : Transducer) (input output a a' : List ℕ) (r : ℕ) : Type 0 where
  pub acceptance : Result Bool Refusal
  pub tested : Tested t input output acceptance
  pub given : Given (number_of acceptance) (flag_of (test.says_yes acceptance) ∷ []) a a' r

-- what `yotselina_accepts` returns and leaves
pub record AcceptsGiven (h input output a a' : List ℕ) (r : ℕ) : Type 0 where
  pub call : Call (Lent accepts_answer a h) (a' ≡ a) (Tests (table_in_of h) input output a a') r

-- ---- useful states and useful pairs

-- a flag for each state: whether it is useful
pub record FindsStates (t : Transducer) (flags flags' : List ℕ) (r : ℕ) : Type 0 where
  pub found : Result StateSet Refusal
  pub useful : UsefulStatesOf t found
  pub flagged : Flagged (number_of found) (states_of found).member flags flags' r

-- what `yotselina_useful_states` returns and leaves
pub record StatesGiven (h flags flags' : List ℕ) (r : ℕ) : Type 0 where
  pub call : Call (Holding h) (flags' ≡ flags) (FindsStates (table_in_of h) flags flags') r

-- what `yotselina_look` returns and leaves: the flags of the set that is kept, as it stands; no table is refused
pub record LookGiven (h flags flags' : List ℕ) (r : ℕ) : Type 0 where
  pub call : Call (Holding h) (flags' ≡ flags) (Flagged 0 (table_in_of h).useful.member flags flags') r

-- a flag for each pair of states, at the pair's number: whether it is useful; and how many are
pub record FindsPairs (t : Transducer) (flags flags' a a' : List ℕ) (r : ℕ) : Type 0 where
  pub found : Result UsefulPairs Refusal
  pub useful : UsefulPairsOf t found
  pub flagged : Flagged (number_of found) (found_of found).set.member flags flags' r
  pub given : Given r ((found_of found).count ∷ []) a a' r

-- what `yotselina_useful_pairs` returns and leaves
pub record PairsGiven (h flags flags' a a' : List ℕ) (r : ℕ) : Type 0 where
  pub call : Call (Lent pairs_answer a h) ((flags' ≡ flags) × (a' ≡ a)) (FindsPairs (table_in_of h) flags flags' a a') r

-- ---- edits in place, and two tables in series

-- the edit of t, whose result is held where t was
pub record Edits (t : Transducer) (e : Edit) (h h' : List ℕ) (r : ℕ) : Type 0 where
  pub edited : Result Transducer Refusal
  pub by : EditedBy t e edited
  pub held : HeldIn (number_of edited) (edited_of t edited) h h' r

-- what `yotselina_append` returns and leaves: the line is handed over as its twelve numbers
pub record AppendGiven (h line h' : List ℕ) (r : ℕ) : Type 0 where
  pub call : Call (Holding h × (most_fields ≤ length line)) (h' ≡ h) (Edits (table_in_of h) (Edit.append (transition_with line)) h h') r

-- what `yotselina_remove` returns and leaves
pub record RemoveGiven (h : List ℕ) (number : ℕ) (h' : List ℕ) (r : ℕ) : Type 0 where
  pub call : Call (Holding h) (h' ≡ h) (Edits (table_in_of h) (Edit.remove number) h h') r

-- the join of two tables, which is held in a third memory
pub record Joins (first second : Transducer) (m m' : List ℕ) (r : ℕ) : Type 0 where
  pub joined : Result Transducer Refusal
  pub joins : JoinedOf first second joined
  pub held : HeldIn (number_of joined) (joined_of joined) m m' r

-- what `yotselina_join` returns and leaves
pub record JoinGiven (h g m m' : List ℕ) (r : ℕ) : Type 0 where
  pub call : Call (Holding h × Holding g × Holding m) (m' ≡ m) (Joins (table_in_of h) (table_in_of g) m m') r

-- ---- the difference of two words

-- what `yotselina_difference` returns and leaves: how the words compare, and of a clash how many codes they have in common at the beginning, otherwise 0
pub record DifferenceGiven (x y a a' : List ℕ) (r : ℕ) : Type 0 where
  pub call : Call (difference_answer ≤ length a) (a' ≡ a) (Given 0 (kind_of (difference_of x y) ∷ carried_of (difference_of x y) ∷ []) a a') r
