-- Every case of document 02 in specs/Requests.antt holds: refusals by their equations, which compute; the small join by its joined pairs, which are all
-- pairs of states. Assumes nothing.
use mathlib.Core.Path.{◌≡◌, refl, ◌∙◌}
use mathlib.Core.Bool.{Bool, true, false, cond, ◌&&◌}
use mathlib.Core.List.{List, [], ◌∷◌, Memᴰ}
use mathlib.Core.Logic.{◌↔◌}
use Prim.Native.Nat.{ℕ, zero, suc, ◌<◌}
use native.Mathlib.Omega.{arith}
use borrow.Author.Tests.{ltb-true, lt-ltb}
use lib.Dec.{eqb, ltb}
use lib.ListN.{length}
use Rattle.transducer.specs.Refusals.{words_too_long, no_input_code, no_output_code, first_of}
use Rattle.transducer.specs.StateSet.{In, has, with_state}
use Rattle.transducer.specs.Transition.{firsts}
use Rattle.transducer.specs.Valid.{all_below, code_of, codes_of, used_of, line_of, set_of}
use Rattle.transducer.specs.Codes.{all_codes}
use Rattle.transducer.specs.Accepted.{accepted_of}
use Rattle.transducer.specs.Lines.{lines_of, transducer_of, without}
use Rattle.transducer.specs.declared.Transducer.{Transducer}
use Rattle.transducer.proofs.Bools.{and_left, and_right, and_both}
use Rattle.transducer.proofs.AcceptedLaws.{accepted_valid}
use Rattle.product.specs.Numbers as product
use Rattle.words.specs.Difference.{shared_of, difference_of}
use Rattle.buffers.proofs.PutLaws.{front_put}
use Rattle.witness.specs.Showing.{Buffers}
use Rattle.wordtest.specs.Words as word
use Rattle.joints.specs.Joint.{one_code_of, joint_step, JointPath, JoinedPair}
use Rattle.joints.proofs.JointLaws.{reached_states}
use Rattle.series.specs.Result.{gather, pairs_below, pairs, both_in_of, leads, row_lines, lines, pair_transducer, result_of}
use Rattle.series.specs.Join as join
use Rattle.series.proofs.SeriesLaws.{same_joined}
use Rattle.edits.specs.Edits as edit
use Rattle.cases.specs.Cases.{set_of_states, one_state_of, shows, Holds}
use Rattle.cases.specs.Requests.{Request, RequestHolds, tested, joined, not_joined, edited, not_edited, agree, table_first, table_second, joined_lines, table_joined, table_two, table_six, table_full, requests}
use Rattle.cases.proofs.TableP.{P_holds, ahead_holds}
use Rattle.cases.proofs.Silent.{silent_5_holds}
use Rattle.cases.proofs.Each.{Each, ◌also◌, nothing, each_member}
use Rattle.cases.proofs.Tables.{lines_keep, keeps_of, keeps_rules, no_lines_valid, P_valid}

-- ---- job 1

is_tested : (input output : List ℕ) (number : ℕ)
    → cond (word.short_of input output) (cond (all_codes input) (cond (all_codes output) 0 no_output_code) no_input_code) words_too_long ≡ number
    → RequestHolds (tested (one_state_of []) input output number)
unfolding word.refusal_of
is_tested input output number e r h = h.number ∙ rw no_lines_valid e

-- ---- job 3

-- all pairs of states of two transducers
unfoldable all_pairs : Transducer → Transducer → ℕ → Bool
all_pairs first second v = ltb (product.first_of v) first.states && ltb (product.second_of v) second.states

module _ {first second : Transducer} (valid : accepted_of first ≡ true) (valid' : accepted_of second ≡ true)
    (every : (p q : ℕ) → p < first.states → q < second.states → JoinedPair first second p q)
  where
    -- are the joined ones, if each of them is
    all_exactly : (v : ℕ) → (all_pairs first second v ≡ true) ↔ JoinedPair first second (product.first_of v) (product.second_of v)
    unfolding all_pairs
    all_exactly v = (
      λ e. every _ _ (ltb-true _ _ (and_left (ltb (product.first_of v) first.states) _ e)) (ltb-true _ _ (and_right (ltb (product.first_of v) first.states) _ e)),
      λ j. let s = reached_states (accepted_valid first valid) (accepted_valid second valid') j.reached in and_both (lt-ltb _ _ s.0) (lt-ltb _ _ s.1),
    )

    -- so they are the ones of any answer
    all_joined : {r : _} (h : join.JoinedOf first second r) → one_code_of first ≡ true → h.joined ≡ all_pairs first second
    unfolding join.joinable
    all_joined h one =
        same_joined h.joined (all_pairs first second) (h.exactly (and_both (and_both valid valid') one)) all_exactly (λ v m. m) (λ v m. m)

first_valid : accepted_of table_first ≡ true
unfolding keeps_of lines_keep line_of used_of codes_of code_of all_below set_of set_of_states has with_state
first_valid = keeps_rules _ _ _ _ refl

second_valid : accepted_of table_second ≡ true
unfolding keeps_of lines_keep line_of used_of codes_of code_of all_below set_of set_of_states has with_state
second_valid = keeps_rules _ _ _ _ refl

two_valid : accepted_of table_two ≡ true
unfolding keeps_of lines_keep line_of used_of codes_of code_of all_below set_of set_of_states has with_state
two_valid = keeps_rules _ _ _ _ refl

six_valid : accepted_of table_six ≡ true
unfolding keeps_of lines_keep line_of used_of codes_of code_of all_below set_of set_of_states has with_state
six_valid = keeps_rules _ _ _ _ refl

full_valid : accepted_of table_full ≡ true
unfolding keeps_of lines_keep line_of used_of codes_of code_of all_below set_of set_of_states has with_state
full_valid = keeps_rules _ _ _ _ refl

-- each pair of states of the two small tables is joined
each_pair : (p q : ℕ) → p < 2 → q < 2 → JoinedPair table_first table_second p q
unfolding joint_step set_of_states has with_state transducer_of
each_pair zero zero h k =
    record {
      reached = record { s = 0; s' = 0; starts = refl; starts' = refl; comes = JointPath.here refl refl };
      finishes = record { f = 1; f' = 0; goes = JointPath.step 1 2 refl (JointPath.here refl refl); ends = refl; ends' = refl };
    }
each_pair zero (suc zero) h k =
    record {
      reached = record { s = 0; s' = 0; starts = refl; starts' = refl; comes = JointPath.step 0 1 refl (JointPath.here refl refl) };
      finishes = record { f = 1; f' = 1; goes = JointPath.step 1 3 refl (JointPath.here refl refl); ends = refl; ends' = refl };
    }
each_pair (suc zero) zero h k =
    record {
      reached = record { s = 0; s' = 0; starts = refl; starts' = refl; comes = JointPath.step 1 2 refl (JointPath.here refl refl) };
      finishes = record { f = 1; f' = 0; goes = JointPath.here refl refl; ends = refl; ends' = refl };
    }
each_pair (suc zero) (suc zero) h k =
    record {
      reached =
          record {
            s = 0;
            s' = 0;
            starts = refl;
            starts' = refl;
            comes = JointPath.step 0 1 refl (JointPath.step 1 3 refl (JointPath.here refl refl));
          };
      finishes = record { f = 1; f' = 1; goes = JointPath.here refl refl; ends = refl; ends' = refl };
    }
each_pair (suc (suc p)) q h k = absurd (omega arith)
each_pair zero (suc (suc q)) h k = absurd (omega arith)
each_pair (suc zero) (suc (suc q)) h k = absurd (omega arith)

-- what is made of all their pairs of states
module _ where
  abbrev all : ℕ → Bool
  all = all_pairs table_first table_second

  starts : both_in_of all table_first.starts table_second.starts ≡ set_of_states (0 ∷ [])
  unfolding both_in_of gather pairs_below all_pairs set_of_states has with_state transducer_of
  starts = refl

  finals : both_in_of all table_first.finals table_second.finals ≡ set_of_states (2 ∷ 3 ∷ [])
  unfolding both_in_of gather pairs_below all_pairs set_of_states has with_state transducer_of
  finals = refl

  made : lines table_first table_second all ≡ joined_lines
  unfolding lines row_lines leads joint_step gather pairs_below all_pairs transducer_of
  made = refl

  four : length (pairs all) ≡ 4
  unfolding gather pairs_below all_pairs transducer_of
  four = refl

  made_of_all : result_of table_first table_second all ≡ table_joined
  unfolding result_of pair_transducer
  made_of_all = rw four (λ i. transducer_of 4 (starts i) (finals i) (made i))

join_holds : RequestHolds (joined table_first table_second table_joined)
unfolding join.refusal_of join.size_refusal one_code_of all_below transducer_of
join_holds r h =
    let same : h.joined ≡ all = all_joined first_valid second_valid each_pair h refl in
    let none : join.refusal_of table_first table_second all ≡ 0 = rw (first_valid, second_valid, four, made) refl in
    (h.number ∙ rw (same, none) refl, h.table ∙ rw (same, none) made_of_all)

two_holds : RequestHolds (not_joined table_two (one_state_of []) 15)
unfolding join.refusal_of one_code_of all_below transducer_of
two_holds r h = let refused : join.refusal_of table_two (one_state_of []) h.joined ≡ 15 = rw (two_valid, no_lines_valid) refl in (h.number ∙ refused, h.table ∙ rw refused refl)

in_six : (q : ℕ) → q < 6 → In (set_of_states (0 ∷ 1 ∷ 2 ∷ 3 ∷ 4 ∷ 5 ∷ [])) q
unfolding set_of_states has with_state
in_six zero h = refl
in_six (suc zero) h = refl
in_six (suc (suc zero)) h = refl
in_six (suc (suc (suc zero))) h = refl
in_six (suc (suc (suc (suc zero)))) h = refl
in_six (suc (suc (suc (suc (suc zero))))) h = refl
in_six (suc (suc (suc (suc (suc (suc q)))))) h = absurd (omega arith)

-- each pair of the six states is a start and an end
six_pairs : (p q : ℕ) → p < 6 → q < 6 → JoinedPair table_six table_six p q
unfolding transducer_of
six_pairs p q h k =
    record {
      reached = record { s = p; s' = q; starts = in_six p h; starts' = in_six q k; comes = JointPath.here refl refl };
      finishes = record { f = p; f' = q; goes = JointPath.here refl refl; ends = in_six p h; ends' = in_six q k };
    }

six_holds : RequestHolds (not_joined table_six table_six 16)
unfolding join.refusal_of join.size_refusal one_code_of all_below gather pairs_below all_pairs transducer_of
six_holds r h =
    let same : h.joined ≡ all_pairs table_six table_six = all_joined six_valid six_valid six_pairs h refl in
    let refused : join.refusal_of table_six table_six (all_pairs table_six table_six) ≡ 16 = rw six_valid refl in
    (h.number ∙ rw (same, refused) refl, h.table ∙ rw (same, refused) refl)

-- ---- job 6

is_edited : (t : Transducer) (e : edit.Edit) (t' : Transducer) → accepted_of t ≡ true → edit.line_refusal t.states (lines_of t) e ≡ 0
    → edit.edit_of t e ≡ t' → RequestHolds (edited t e t')
unfolding edit.refusal_of first_of
is_edited t e t' a none same r h =
    let done : edit.refusal_of t e ≡ 0 = rw (a, none) refl in
    (h.number ∙ done, h.table ∙ rw done same)

is_refused : (t : Transducer) (e : edit.Edit) (number : ℕ) → accepted_of t ≡ true → edit.line_refusal t.states (lines_of t) e ≡ number → eqb number 0 ≡ false
    → RequestHolds (not_edited t e number)
unfolding edit.refusal_of first_of
is_refused t e number a refused other r h =
    let told : edit.refusal_of t e ≡ number = rw (a, refused, other) refl in
    (h.number ∙ told, h.table ∙ rw (told, other) refl)

-- ---- job 8

-- what stands at the front of the buffers is what is shown
is_agreed : (t : Transducer) {u : ℕ} (s : Buffers) → Holds (shows t u s)
    → RequestHolds (agree t s.output_x s.output_y (shared_of s.output_x s.output_y))
is_agreed t s h b b' r full d =
    let shown = h.1 b b' r full d in
    rw (shown.counts, shown.filled) (front_put b.output_x s.output_x, front_put b.output_y s.output_y, refl)

-- ---- every case

each_request : Each RequestHolds requests
unfolding requests all_codes all_below edit.line_refusal edit.edit_of edit.edit_lines first_of line_of used_of codes_of code_of without firsts transducer_of
    difference_of shared_of
each_request =
    is_tested _ _ _ refl
    also is_tested _ _ _ refl
    also is_tested _ _ _ refl
    also is_tested _ _ _ refl
    also is_tested _ _ _ refl
    also is_tested _ _ _ refl
    also is_tested _ _ _ refl
    also join_holds
    also two_holds
    also six_holds
    also is_edited _ _ _ P_valid refl refl
    also is_edited _ _ _ P_valid refl refl
    also is_refused _ _ _ P_valid refl refl
    also is_refused _ _ _ P_valid refl refl
    also is_refused _ _ _ P_valid refl refl
    also is_refused _ _ _ full_valid refl refl
    also is_refused _ _ _ full_valid refl refl
    also refl
    also refl
    also refl
    also is_agreed _ _ P_holds
    also is_agreed _ _ silent_5_holds
    also is_agreed _ _ ahead_holds
    also nothing

-- every case of the list `requests` holds
pub requests_hold : (c : Request) → Memᴰ c requests → RequestHolds c
requests_hold = each_member each_request
