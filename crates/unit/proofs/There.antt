-- There are results as the laws ask for them: a file that is taken can be read, and for every list of edits there are calls. Assumes nothing.
use mathlib.Core.Path.{◌≡◌, refl, sym, ap, ◌∙◌}
use mathlib.Core.Bool.{true, cond}
use mathlib.Core.List.{List, [], ◌∷◌, Memᴰ, append-nil}
use Prim.Native.Nat.{ℕ, ◌≤◌}
use native.Mathlib.Omega.{arith}
use borrow.Author.Tests.{eq-eqb, ne_eqb}
use lib.Dec.{eqb}
use lib.ListN.{length}
use Rattle.buffers.specs.Put.{put}
use Rattle.records.specs.Letters.{most_fields}
use Rattle.transducer.specs.Limits.{most_outputs}
use Rattle.transducer.specs.Accepted.{accepted_of}
use Rattle.transducer.specs.declared.Transition.{Transition}
use Rattle.tablereader.specs.Transitions.{transition_with}
use Rattle.held.specs.Held.{held_of, table_in_of, line_bytes}
use Rattle.held.proofs.PartLaws.{codes_size}
use Rattle.held.proofs.HeldLaws.{transition_back}
use Rattle.held.proofs.BytesLaws.{held_shaped}
use Rattle.transducer.specs.Refusals.{number_of}
use Rattle.edits.specs.Edits.{Edit, Whole, edited_of, with_line_lem, with_number}
use Rattle.edits.proofs.MadeLaws.{Answered, call_there}
use Rattle.engine.specs.Engine.{Taken, table_of}
use Rattle.unit.specs.Calls.{Holding, ReadGiven, Edits}
use Rattle.unit.specs.Laws as laws
use Rattle.unit.specs.Laws.{EditCalls}
use Rattle.unit.proofs.Returns.{begun}
use Rattle.unit.proofs.ReturnLaws.{taken_code}
use Rattle.unit.proofs.HeldCalls.{edit_holding, edited_accepted}

pub read_there : (f m : List ℕ) → Taken f → Holding m → ReadGiven f m (put m 0 (held_of (table_of f))) 0
read_there f m taken long =
    record { call = begun long (record { code = sym (taken_code f taken); refused = λ n. absurd (n refl); held = λ _. refl }) }

-- ---- one edit

module _ (h : List ℕ) (e : Edit) (accepted : accepted_of (table_in_of h) ≡ true) (whole : Whole e) where
  answer : Answered (table_in_of h) e
  answer = call_there (table_in_of h) e accepted (held_shaped h) whole

  abbrev number : ℕ
  number = number_of answer.answer

  -- the memory afterwards
  next : List ℕ
  next = cond (eqb number 0) (put h 0 (held_of (edited_of (table_in_of h) answer.answer))) h

  edits : Edits (table_in_of h) e h next number
  unfolding next
  edits =
      record {
        edited = answer.answer;
        by = answer.answers;
        held = record { code = refl; refused = λ n. rw (ne_eqb number 0 n); held = λ z. rw (eq-eqb number 0 z) };
      }

-- a line, as it is handed over
line_back : (v : Transition) → length v.output ≡ most_outputs → v ≡ transition_with (line_bytes v)
line_back v size = sym (ap transition_with (sym (append-nil (line_bytes v))) ∙ transition_back v [] size)

one_call : {h g h' : List ℕ} {e : Edit} {edits : List Edit} {r : ℕ} {returned : List ℕ} → Whole e → Holding h → Edits (table_in_of h) e h g r
    → EditCalls g edits returned h' → EditCalls h (e ∷ edits) (r ∷ returned) h'
one_call (with_line_lem v same size) long k rest =
    let line = same ∙ ap Edit.append (line_back v size) in
    let places : most_fields ≤ length (line_bytes v) = omega (arith, codes_size v size) in
    laws.append line places (record { call = begun (long, places) (rw line at k) }) rest
one_call (with_number l same) long k rest = laws.remove same (record { call = begun long (rw same at k) }) rest

-- ---- any number of them

pub edits_there : (h : List ℕ) (edits : List Edit) → Holding h → accepted_of (table_in_of h) ≡ true → ((e : Edit) → Memᴰ e edits → Whole e)
    → (returned : List ℕ) × (h' : List ℕ) × EditCalls h edits returned h'
edits_there h [] long accepted whole = ([], h, laws.no_call refl)
edits_there h (e ∷ rest) long accepted whole =
    let one = whole e (Memᴰ.head refl) in
    let k = edits h e accepted one in
    let more = edits_there (next h e accepted one) rest (edit_holding long k) (edited_accepted accepted long k) (λ e' m. whole e' (Memᴰ.tail m)) in
    (number h e accepted one ∷ more.0, more.1, one_call one long k more.2)
