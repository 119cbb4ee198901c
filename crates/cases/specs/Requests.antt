-- Document 02's numbers, limits and orders on small words and tables, one small join and edits, written out: what its words say, a second time.
-- `requests` is the list; proofs/Requests.antt shows that every case of it holds.
use Rattle.std.specs.Prelude.{◌≡◌, Bool, true, List, [], ◌∷◌, ℕ, replicate, Result}
use Rattle.words.specs.Difference.{difference_of, carried_of}
use Rattle.transducer.specs.Blank.{blank_transducer}
use Rattle.transducer.specs.Lines.{transducer_of}
use Rattle.transducer.specs.Refusals.{number_of}
use Rattle.transducer.specs.declared.refusals.Refusal.{Refusal}
use Rattle.transducer.specs.declared.Transition.{Transition}
use Rattle.transducer.specs.declared.Transducer.{Transducer}
use Rattle.wordtest.specs.Tested.{Tested}
use Rattle.witness.specs.Showing.{Buffers, x_in, y_in}
use Rattle.functionality.specs.Decided.{full_of, counts_of, Decided}
use Rattle.functionality.specs.declared.Verdict.{Verdict}
use Rattle.series.specs.Join as join
use Rattle.edits.specs.Edits as edit
use Rattle.cases.specs.Cases.{transition_with, set_of_states, one_state_of, two_lines, table_p, silent}

-- ---- the kinds of cases

-- what is given, and what must come out
pub data Request : Type 0 where
  -- a transducer, an input word and an output word; the word test's refusal, 0 where there is none
  tested : Transducer → List ℕ → List ℕ → ℕ → Request
  -- two transducers in series; the one that they join to
  joined : Transducer → Transducer → Transducer → Request
  -- two transducers in series; the refusal
  not_joined : Transducer → Transducer → ℕ → Request
  -- a transducer and an edit; the edited one
  edited : Transducer → edit.Edit → Transducer → Request
  -- a transducer and an edit; the refusal
  not_edited : Transducer → edit.Edit → ℕ → Request
  -- two words; the number that their difference carries
  carries : List ℕ → List ℕ → ℕ → Request
  -- a transducer that is split; the outputs that are shown, and how many codes the verdict says that they have in common
  agree : Transducer → List ℕ → List ℕ → ℕ → Request

-- every answer that meets the contract is what the case says
abbrev pub RequestHolds : Request → Type 0
RequestHolds (tested t input output number) = (r : Result Bool Refusal) → Tested t input output r → number_of r ≡ number
RequestHolds (joined first second t) =
    (r : Result Transducer Refusal) → join.JoinedOf first second r → (number_of r ≡ 0) × (join.joined_of r ≡ t)
RequestHolds (not_joined first second number) =
    (r : Result Transducer Refusal) → join.JoinedOf first second r → (number_of r ≡ number) × (join.joined_of r ≡ blank_transducer)
RequestHolds (edited t e t') = (r : Result Transducer Refusal) → edit.EditedBy t e r → (number_of r ≡ 0) × (edit.edited_of t r ≡ t')
RequestHolds (not_edited t e number) =
    (r : Result Transducer Refusal) → edit.EditedBy t e r → (number_of r ≡ number) × (edit.edited_of t r ≡ t)
RequestHolds (carries x y n) = carried_of (difference_of x y) ≡ n
RequestHolds (agree t x y n) =
    (b b' : Buffers) (r : Result Verdict Refusal) → full_of b ≡ true → Decided t b b' r
    → (x_in b' (counts_of r) ≡ x) × (y_in b' (counts_of r) ≡ y) × ((counts_of r).shared ≡ n)

-- ---- tables

-- two tables in series, and what they join to. The first's lines 0 and 1 are the same, its line 2 writes nothing; the second's line 0 reads nothing. The
-- pairs (0, 0), (0, 1), (1, 0) and (1, 1) are all joined, and become the states 0 to 3; the last two are of final states
abbrev pub table_first : Transducer
table_first =
    transducer_of 2 (set_of_states (0 ∷ [])) (set_of_states (1 ∷ []))
    (transition_with 0 1 1 (2 ∷ []) ∷ transition_with 0 1 1 (2 ∷ []) ∷ transition_with 0 0 3 [] ∷ [])

abbrev pub table_second : Transducer
table_second =
    transducer_of 2 (set_of_states (0 ∷ [])) (set_of_states (0 ∷ 1 ∷ []))
    (transition_with 0 1 0 (5 ∷ []) ∷ transition_with 0 0 2 (6 ∷ []) ∷ transition_with 1 1 2 (7 ∷ 8 ∷ []) ∷ transition_with 0 0 2 (9 ∷ []) ∷ [])

abbrev pub joined_lines : List Transition
joined_lines =
    -- from (0, 0): none and line 0; line 0 and line 1; line 0 and line 3; line 1 and line 1; line 1 and line 3; line 2 and none
    transition_with 0 1 0 (5 ∷ [])
    ∷ transition_with 0 2 1 (6 ∷ [])
    ∷ transition_with 0 2 1 (9 ∷ [])
    ∷ transition_with 0 2 1 (6 ∷ [])
    ∷ transition_with 0 2 1 (9 ∷ [])
    ∷ transition_with 0 0 3 []
    -- from (0, 1): line 0 and line 2; line 1 and line 2; line 2 and none
    ∷ transition_with 1 3 1 (7 ∷ 8 ∷ [])
    ∷ transition_with 1 3 1 (7 ∷ 8 ∷ [])
    ∷ transition_with 1 1 3 []
    -- from (1, 0): none and line 0
    ∷ transition_with 2 3 0 (5 ∷ [])
    ∷ []

abbrev pub table_joined : Transducer
table_joined = transducer_of 4 (set_of_states (0 ∷ [])) (set_of_states (2 ∷ 3 ∷ [])) joined_lines

-- a line of the first writes two codes
abbrev pub table_two : Transducer
table_two = one_state_of (transition_with 0 0 1 (2 ∷ 2 ∷ []) ∷ [])

-- six states, each start and final: 36 pairs are joined with itself
abbrev pub table_six : Transducer
table_six = transducer_of 6 (set_of_states (0 ∷ 1 ∷ 2 ∷ 3 ∷ 4 ∷ 5 ∷ [])) (set_of_states (0 ∷ 1 ∷ 2 ∷ 3 ∷ 4 ∷ 5 ∷ [])) []

-- one state and as many lines as there may be
abbrev pub table_full : Transducer
table_full = one_state_of (replicate 256 (transition_with 0 0 1 []))

-- a line that holds a 7 behind its count of outputs
abbrev pub line_beyond : Transition
line_beyond = record { from = 0; to = 0; input = record { 0 = 1 }; count = 7; output = replicate 8 (record { 0 = 7 }) }

-- ---- the cases, under document 02's words

unfoldable pub requests : List Request
requests =
    -- job 1: "a cue of up to 63 codes and an output of up to 127"; "(13: cue over 63 or output over 127; 14: an output code is 0 or over 250; order 8, 13,
    -- 10, 14.)"
    tested (one_state_of []) (replicate 63 1) (replicate 127 250) 0
    ∷ tested (one_state_of []) (replicate 64 1) [] 13
    ∷ tested (one_state_of []) [] (replicate 128 1) 13
    ∷ tested (one_state_of []) (replicate 64 0) [] 13
    ∷ tested (one_state_of []) (0 ∷ []) (0 ∷ []) 10
    ∷ tested (one_state_of []) [] (0 ∷ []) 14
    ∷ tested (one_state_of []) [] (251 ∷ []) 14
    -- job 3: states, lines and their order; 15 and 16
    ∷ joined table_first table_second table_joined
    ∷ not_joined table_two (one_state_of []) 15
    ∷ not_joined table_six table_six 16
    -- job 6: "a line appended as the last, and a line removed by its number, those after it moving down one"; 17, 18 and 19, and 19 before 17
    ∷ edited table_p (edit.append (transition_with 0 0 2 []))
    (one_state_of (transition_with 0 0 1 (5 ∷ []) ∷ transition_with 0 0 1 (6 ∷ []) ∷ transition_with 0 0 2 [] ∷ []))
    ∷ edited table_p (edit.remove 0) (one_state_of (transition_with 0 0 1 (6 ∷ []) ∷ []))
    ∷ not_edited table_p (edit.remove 2) 18
    ∷ not_edited table_p (edit.append (transition_with 0 1 1 [])) 19
    ∷ not_edited table_p (edit.append line_beyond) 19
    ∷ not_edited table_full (edit.append (transition_with 0 0 1 [])) 17
    ∷ not_edited table_full (edit.append (transition_with 0 1 1 [])) 19
    -- job 8: "in the case of a clash, is to carry how many codes they share at the beginning, otherwise 0"; "how many X and Y share there, also where one is
    -- a beginning of the other"; "for table P it is 0"
    ∷ carries (5 ∷ 6 ∷ []) (5 ∷ 7 ∷ []) 1
    ∷ carries (5 ∷ []) (5 ∷ 6 ∷ []) 0
    ∷ carries (5 ∷ 6 ∷ []) (5 ∷ 6 ∷ []) 0
    ∷ agree table_p (5 ∷ []) (6 ∷ []) 0
    ∷ agree (silent (5 ∷ [])) [] (5 ∷ []) 0
    ∷ agree (two_lines (5 ∷ []) (5 ∷ 6 ∷ [])) (5 ∷ []) (5 ∷ 6 ∷ []) 1
    ∷ []
