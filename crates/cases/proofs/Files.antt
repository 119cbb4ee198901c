-- Every file and every listing of specs/Files.antt is as it says there, by computation; that the tables are read comes from the round trip, and what is
-- printed of table P from its starred case. Assumes nothing.
use mathlib.Core.Path.{◌≡◌, refl, sym, ap, ◌∙◌}
use mathlib.Core.Bool.{Bool, true, ◌&&◌}
use mathlib.Core.List.Memᴰ
use mathlib.Core.List.{List, [], ◌∷◌, flat_map, Memᴰ}
use mathlib.Core.Logic.{⊎_elim}
use Prim.Native.Nat.{ℕ}
use native.Mathlib.Omega.{arith}
use borrow.Author.Tests.{eqb-true}
use lib.Dec.{eqb}
use lib.ListN.{length, take}
use Rattle.words.specs.Difference.{shared_of}
use Rattle.transducer.specs.Limits.{most_outputs}
use Rattle.transducer.specs.StateSet.{has, with_state}
use Rattle.transducer.specs.Transition.{firsts}
use Rattle.transducer.specs.Valid.{Shaped}
use Rattle.transducer.specs.Accepted.{accepted_of}
use Rattle.transducer.specs.Lines.{transducer_of, Among}
use Rattle.transducer.specs.declared.Transition.{Transition}
use Rattle.transducer.specs.declared.Transducer.{Transducer}
use Rattle.transducer.proofs.Bools.{and_left, and_right}
use Rattle.transducer.proofs.LineLaws.{made_shaped}
use Rattle.records.specs.Byte.{byte_fault_of}
use Rattle.records.specs.Field.{column_of, add_column_of, field_of}
use Rattle.records.specs.Number.{columns_of, leadings_of, leading_of}
use Rattle.records.specs.Reading.{number_at, fields_fault, values_at, record_fault, record_at}
use Rattle.records.specs.Record.{fields_of, record_bytes, counted_bytes}
use Rattle.tablereader.specs.Header.{header_of}
use Rattle.std.specs.Prelude.{Result}
use Rattle.transducer.specs.declared.refusals.Refusal.{Refusal}
use Rattle.tablereader.specs.Outcome.{number_of, table_of_reading}
use Rattle.tablereader.specs.Reader.{end_fault_of, starts_of, finals_of, transitions_of, outcome_with, read_of}
use Rattle.tablereader.specs.States.{state_record_of, read_states_of, states_from}
use Rattle.tablereader.specs.Transitions.{count_at, transition_record_of, read_transitions_of, transitions_from}
use Rattle.tablewriter.specs.File.{state_at, states_below, size_of, state_bytes, transition_bytes, transition_bytes_below, header_bytes, write_of}
use Rattle.tablefile.specs.RoundTrips.{taken_as}
use Rattle.tablefile.proofs.RoundTrips.{round_trips}
use Rattle.listing.specs.Listing.{witness_listing, verdict_listing, refusal_listing, translation_listing}
use Rattle.buffers.specs.Put.{put}
use Rattle.witness.specs.Showing.{Buffers, buffers_of, put_all, counts_of, x_in, y_in}
use Rattle.functionality.specs.Decided.{Decided}
use Rattle.functionality.specs.declared.Verdict.{Verdict}
use Rattle.engine.specs.Engine.{Taken, table_of, on_file}
use Rattle.engine.proofs.EngineLaws.{number_on, split_on, useful_on, counts_on}
use Rattle.report.specs.Report.{lent, judgement_listing}
use Rattle.report.proofs.ReportLaws.{verdict_listed}
use Rattle.report.proofs.PrintedLaws.{lent_full}
use Rattle.cases.specs.Cases.{set_of_states, table_p, table_d}
use Rattle.cases.specs.Files.{bytes, lines, FileCase, FileHolds, file_p, file_d, with_line, files, listing_p, PrintedP, Listings}
use Rattle.cases.proofs.Each.{Each, ◌also◌, nothing, each_member}
use Rattle.cases.proofs.Tables.{P_valid, D_valid}
use Rattle.cases.proofs.TableP.{P_holds}

-- ---- tables and their files

-- each line has all its places for output codes
unfoldable whole : List Transition → Bool
whole [] = true
whole (v ∷ rest) = eqb (length v.output) most_outputs && whole rest

whole_each : (list : List Transition) → whole list ≡ true → (v : Transition) → Among v list → length v.output ≡ most_outputs
unfolding whole
whole_each [] e v m = absurd (Memᴰ.not-nil m)
whole_each (w ∷ rest) e v m =
    ⊎_elim
    (λ k. ap (λ (x : Transition). length x.output) k ∙ eqb-true _ _ (and_left (eqb (length w.output) most_outputs) (whole rest) e))
    (whole_each rest (and_right (eqb (length w.output) most_outputs) (whole rest) e) v)
    (Memᴰ.cases_cons m)

P_shaped : Shaped table_p
unfolding set_of_states with_state whole
P_shaped = made_shaped 1 _ _ _ refl refl (omega arith) (whole_each _ refl)

D_shaped : Shaped (table_d (5 ∷ 6 ∷ []))
unfolding set_of_states with_state whole
D_shaped = made_shaped 4 _ _ _ refl refl (omega arith) (whole_each _ refl)

P_written : write_of table_p ≡ file_p
unfolding write_of header_bytes state_bytes transition_bytes_below transition_bytes record_bytes fields_of flat_map columns_of leadings_of leading_of states_below state_at size_of has set_of_states with_state transducer_of firsts file_p lines bytes
P_written = refl

D_written : write_of (table_d (5 ∷ 6 ∷ [])) ≡ file_d
unfolding write_of header_bytes state_bytes transition_bytes_below transition_bytes record_bytes fields_of flat_map columns_of leadings_of leading_of states_below state_at size_of has set_of_states with_state transducer_of firsts file_d lines bytes
D_written = refl

-- what is written is read
read_back : {t : Transducer} {f : List ℕ} → accepted_of t ≡ true → Shaped t → write_of t ≡ f → read_of f ≡ taken_as t
read_back {t} a s e = ap read_of (sym e) ∙ round_trips.read_written t a s

-- ---- every case

each_file : Each FileHolds files
unfolding files read_of outcome_with header_of starts_of finals_of transitions_of end_fault_of state_record_of read_states_of states_from count_at transition_record_of read_transitions_of transitions_from byte_fault_of column_of add_column_of field_of number_at fields_fault values_at record_fault record_at file_p with_line lines bytes
each_file =
    (P_written, read_back P_valid P_shaped P_written)
    also (D_written, read_back D_valid D_shaped D_written)
    also (refl, refl)
    also (refl, refl)
    also (refl, refl)
    also (refl, refl)
    also (refl, refl)
    also (refl, refl)
    also (refl, refl)
    also (refl, refl)
    also (refl, refl)
    also (refl, refl)
    also (refl, refl)
    also refl
    also (refl, refl)
    also (refl, refl)
    also (refl, refl)
    also (refl, refl)
    also (refl, refl)
    also (refl, refl)
    also (refl, refl)
    also refl
    also (refl, refl)
    also (refl, refl)
    also (refl, refl)
    also (refl, refl)
    also (refl, refl)
    also (refl, refl)
    also (refl, refl)
    also (refl, refl)
    also (refl, refl)
    also nothing

-- every file of the list `files` is as it says
pub files_hold : (c : FileCase) → Memᴰ c files → FileHolds c
files_hold = each_member each_file

pub listings : Listings
unfolding verdict_listing witness_listing refusal_listing translation_listing counted_bytes record_bytes fields_of flat_map columns_of leadings_of leading_of file_p lines bytes
listings = record { single = refl; split = refl; refusal = refl; output = refl; size_p = refl }

-- ---- what the verdict program prints of table P

-- the buffers with what is shown, and its counts
abbrev shown_p : Buffers
shown_p = buffers_of (1 ∷ []) (0 ∷ []) (1 ∷ []) (5 ∷ []) (6 ∷ [])

P_listed : let b = put_all lent shown_p in let c = counts_of shown_p in
    verdict_listing true 1 (take c.word b.word) (take c.path_a b.path_a) (take c.path_b b.path_b) (x_in b c) (y_in b c) c.shared ≡ listing_p
unfolding verdict_listing witness_listing counted_bytes record_bytes fields_of flat_map columns_of leadings_of leading_of listing_p lines bytes put shared_of
P_listed = refl

P_table : table_of file_p ≡ table_p
P_table = ap table_of_reading (read_back P_valid P_shaped P_written)

P_taken : Taken file_p
P_taken = ap number_of (read_back P_valid P_shaped P_written)

-- what any verdict on it answers and shows
P_judged : (b : Buffers) (v : Result Verdict Refusal) → Decided table_p lent b v → judgement_listing (on_file v) b ≡ listing_p
P_judged b v d =
    let answers = P_holds.0.answers lent b v lent_full d in
    let shows = P_holds.1 lent b v lent_full d in
    verdict_listed (on_file v) b (number_on v ∙ answers.number)
    ∙ rw (split_on v, useful_on v, counts_on v, answers.answer, answers.useful, shows.counts, shows.filled) P_listed

pub printed_p : PrintedP
printed_p out₀ out n r =
    let on = r.judged.taken P_taken in
    let same = P_judged r.buffers on.verdict (rw P_table at on.decided) in
    rw (on.answer, same) at r.puts
