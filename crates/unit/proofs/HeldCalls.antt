-- What a call leaves in memory, the next one finds there: files read and written, edits in a row, joins, looks. Assumes nothing.
use mathlib.Core.Path.{◌≡◌, refl, sym, ap, ◌∙◌}
use mathlib.Core.Bool.{true, true≢false}
use mathlib.Core.List.{List, [], ◌∷◌}
use mathlib.Core.Logic.{◌≢◌, inl, inr}
use Prim.Native.Nat.{ℕ, ◌+◌, ◌≤◌}
use native.Mathlib.Omega.{arith}
use borrow.Author.Tests.{eq-eqb, ne_eqb}
use lib.ListN.{length, get_or, take, drop}
use lib.Seq.{drop-append_seam}
use Rattle.buffers.specs.Put.{put}
use Rattle.buffers.proofs.PutLaws.{front_put, put_length}
use Rattle.transducer.specs.Refusals.{list_too_short}
use Rattle.transducer.specs.Valid.{Shaped}
use Rattle.transducer.specs.Accepted.{accepted_of}
use Rattle.transducer.specs.Alike.{Alike}
use Rattle.transducer.specs.declared.Transducer.{Transducer}
use Rattle.transducer.proofs.AcceptedLaws.{accepted_kept}
use Rattle.std.specs.Prelude.{Ok}
use Rattle.transducer.specs.Refusals.{number_of}
use Rattle.tablereader.specs.Outcome as outcome
use Rattle.tablereader.specs.Outcome.{table_of_reading}
use Rattle.tablereader.specs.Reader.{read_of}
use Rattle.tablereader.proofs.ReadLaws.{read_shaped}
use Rattle.tablereader.proofs.Validity.{read_accepted}
use Rattle.tablewriter.specs.File.{write_of}
use Rattle.tablewriter.specs.Writing as file
use Rattle.tablewriter.proofs.WroteLaws.{wrote_accepted}
use Rattle.tablefile.specs.RoundTrips.{taken_as}
use Rattle.tablefile.proofs.RoundTrips.{round_trips}
use Rattle.held.specs.Held.{held_size, held_of, table_in_of}
use Rattle.held.proofs.BytesLaws.{held_exactly, held_shaped, put_held}
use Rattle.useful.specs.UsefulStates.{states_of, UsefulStatesOf}
use Rattle.useful.proofs.Determined.{useful_states_determined}
use Rattle.edits.specs.Edits as edit
use Rattle.edits.specs.Edits.{Edit, edited_of}
use Rattle.edits.specs.Rows as row
use Rattle.edits.specs.Rows.{Calls}
use Rattle.edits.proofs.RowLaws.{one_accepted, in_a_row}
use Rattle.series.specs.Join.{joined_of, JoinedOf}
use Rattle.series.proofs.SeriesLaws.{in_series, joined_shaped}
use Rattle.series.proofs.AlikeLaws.{alike_joins}
use Rattle.panel.specs.Makings.{Looks}
use Rattle.engine.specs.Engine.{Taken, table_of}
use Rattle.filelaws.specs.Rack.{EditedFrom}
use Rattle.filelaws.specs.Series.{FileInSeries}
use Rattle.filelaws.proofs.RackLaws.{edited_from}
use Rattle.filelaws.proofs.JoinedFiles.{files_in_series}
use Rattle.answers.specs.Answers.{Flagged, write_answer}
use Rattle.unit.specs.Calls.{Call, Holding, ReadGiven, Writes, WriteGiven, LookGiven, StatesGiven, FindsStates, JoinGiven, Joins, Edits}
use Rattle.unit.specs.Laws as laws
use Rattle.unit.specs.Laws.{MadeIn, EditCalls, EditsInPlace, made_of, SeriesOf}
use Rattle.unit.proofs.CallLaws.{OrNot, holding, lent, line_lent, three_holding, done_lent, done, answered, twice, either, front}
use Rattle.unit.proofs.ReturnLaws.{taken_code, code_taken}
use Rattle.unit.proofs.Determined.{flags_same}

-- ---- memory in which a table was put

-- the places behind it hold what they held, and there are as many
put_behind : (t : Transducer) (h : List ℕ) → Shaped t → drop held_size (put h 0 (held_of t)) ≡ drop held_size h
unfolding put
put_behind t h s =
    let size = held_exactly.size t s in
    let all : 0 + length (held_of t) ≡ held_size = omega (arith, size) in
    ap (λ n. drop n (put h 0 (held_of t))) (sym size) ∙ drop-append_seam (held_of t) (drop (0 + length (held_of t)) h) ∙ ap (λ n. drop n h) all

put_holding : (t : Transducer) (h : List ℕ) → Shaped t → Holding h → Holding (put h 0 (held_of t))
put_holding t h s long = omega (arith, put_length h 0 (held_of t) (omega (arith, held_exactly.size t s, long)), long)

-- ---- files

module _ {f m h : List ℕ} {r : ℕ} (g : ReadGiven f m h r) (z : r ≡ 0) where
  pub read_taken : Taken f
  read_taken = code_taken f (sym (done g.call (holding m) z).code ∙ z)

  pub read_table : table_in_of h ≡ table_of f
  read_table = rw ((done g.call (holding m) z).held z) (put_held (table_of f) m (read_shaped f))

  pub read_holding : Holding h
  read_holding = rw ((done g.call (holding m) z).held z) (put_holding (table_of f) m (read_shaped f) (done_lent g.call (holding m) z))

-- the table of a file that is taken is written as the file
file_again : (f : List ℕ) {t : Transducer} {out out' a a' : List ℕ} {s : ℕ} → Taken f → t ≡ table_of f → Writes t out out' a a' s → length f ≤ length out
    → (s ≡ 0) × (out' ≡ put out 0 f) × (a' ≡ put a 0 (length f ∷ []))
file_again f {out = out} {out'} {a} {a'} {s} taken table held room =
    let writes : Writes (table_of f) out out' a a' s = rw table at held in
    let again =
    round_trips.read_then_write f out out' (read_of f) writes.writing refl taken writes.wrote room
    in
    let none : s ≡ 0 = writes.given.code ∙ again.number in
    (none, again.buffer, writes.given.answered none ∙ ap (λ l. put a 0 (l ∷ [])) again.count)

pub read_then_write : {f m h out out' a a' : List ℕ} {r s : ℕ} → ReadGiven f m h r → r ≡ 0 → WriteGiven h out out' a a' s → s ≢ list_too_short
    → length f ≤ length out → (s ≡ 0) × (out' ≡ put out 0 f) × (a' ≡ put a 0 (length f ∷ []))
read_then_write {f} {h = h} {a = a} g z k n = file_again f (read_taken g z) (read_table g z) (answered k.call (lent write_answer a h) n)

module _ {h out out' a a' : List ℕ} {r : ℕ} (g : WriteGiven h out out' a a' r) (z : r ≡ 0) where
  -- what is written is read to the table
  written_read : read_of (take (get_or a' 0 0) out') ≡ taken_as (table_in_of h)
  written_read =
      let writes = done g.call (lent write_answer a h) z in
      let size : get_or a' 0 0 ≡ file.length_of writes.writing = ap (λ l. get_or l 0 0) (writes.given.answered z) ∙ front a _ [] in
      rw size
      (round_trips.write_then_read (table_in_of h) out out' writes.writing _ writes.wrote (sym writes.given.code ∙ z) refl)

  pub write_then_read : {m m' : List ℕ} {s : ℕ} → ReadGiven (take (get_or a' 0 0) out') m m' s → Holding m → (s ≡ 0) × (table_in_of m' ≡ table_in_of h)
  write_then_read {m} {m'} {s} k long =
      let text = take (get_or a' 0 0) out' in
      let taken : Taken text = ap outcome.number_of written_read in
      let none : s ≡ 0 = (k.call.answers long).code ∙ taken_code text taken in
      (none, read_table k none ∙ ap table_of_reading written_read)

-- ---- an edit

module _ {h h' : List ℕ} {e : Edit} {r : ℕ} (long : Holding h) (g : Edits (table_in_of h) e h h' r) where
  -- a refused one hands the table back
  handed_back : r ≢ 0 → edited_of (table_in_of h) g.edited ≡ table_in_of h
  handed_back n =
      let refused : edit.refusal_of (table_in_of h) e ≢ 0 = λ z. n (g.held.code ∙ g.by.number ∙ z) in
      g.by.table ∙ rw (ne_eqb _ 0 refused) refl

  pub edit_table : table_in_of h' ≡ edited_of (table_in_of h) g.edited
  edit_table =
      either r (λ z. rw (g.held.held z) (put_held (edited_of (table_in_of h) g.edited) h g.by.shaped))
      (λ n. ap table_in_of (g.held.refused n) ∙ sym (handed_back n))

  edit_behind : drop held_size h' ≡ drop held_size h
  edit_behind = either r (λ z. rw (g.held.held z) (put_behind (edited_of (table_in_of h) g.edited) h g.by.shaped)) (λ n. ap (drop held_size) (g.held.refused n))

  pub edit_holding : Holding h'
  edit_holding = either r (λ z. rw (g.held.held z) (put_holding (edited_of (table_in_of h) g.edited) h g.by.shaped long)) (λ n. rw (g.held.refused n) long)

-- any number of them
record InMemory (h : List ℕ) (edits : List Edit) (returned h' : List ℕ) : Type 0 where
  calls : Calls (table_in_of h) edits returned (table_in_of h')
  behind : drop held_size h' ≡ drop held_size h

one_more : {h g h' : List ℕ} {e : Edit} {edits : List Edit} {r : ℕ} {returned : List ℕ} → Holding h → Edits (table_in_of h) e h g r
    → InMemory g edits returned h' → InMemory h (e ∷ edits) (r ∷ returned) h'
one_more {h} {h' = h'} {edits = edits} {returned = returned} long g more =
    let tables : Calls (edited_of (table_in_of h) g.edited) edits returned (table_in_of h') = rw (edit_table long g) at more.calls in
    record { calls = row.call g.by g.held.code tables; behind = more.behind ∙ edit_behind long g }

in_memory : {h h' : List ℕ} {edits : List Edit} {returned : List ℕ} → Holding h → EditCalls h edits returned h' → InMemory h edits returned h'
in_memory long (laws.no_call same) = record { calls = row.no_call (ap table_in_of same); behind = ap (drop held_size) (sym same) }
in_memory long (laws.append same line given rest) =
    let one = rw (← same) at (given.call.answers (long, line)) in one_more long one (in_memory (edit_holding long one) rest)
in_memory long (laws.remove same given rest) =
    let one = rw (← same) at (given.call.answers long) in one_more long one (in_memory (edit_holding long one) rest)

pub edits_in_place : {h h' : List ℕ} {edits : List Edit} {returned : List ℕ} → Holding h → accepted_of (table_in_of h) ≡ true → EditCalls h edits returned h'
    → EditsInPlace h edits returned h'
edits_in_place {h} long accepted calls =
    let all = in_memory long calls in
    record { row = in_a_row accepted (held_shaped h) all.calls; behind = all.behind }

pub edited_file : {f m h h' : List ℕ} {edits : List Edit} {returned : List ℕ} → ReadGiven f m h 0 → EditCalls h edits returned h'
    → EditedFrom f edits returned (table_in_of h')
edited_file {f} {h' = h'} {edits} {returned} g calls =
    let all : Calls (table_of f) edits returned (table_in_of h') = rw (read_table g refl) at (in_memory (read_holding g refl) calls).calls in
    edited_from (read_taken g refl) all

-- ---- a join

module _ {h g m m' : List ℕ} {r : ℕ} (k : JoinGiven h g m m' r) (z : r ≡ 0) where
  pub joins_done : Joins (table_in_of h) (table_in_of g) m m' r
  joins_done = done k.call (three_holding h g m) z

  made : number_of joins_done.joined ≡ 0
  made = sym joins_done.held.code ∙ z

  pub joined_table : table_in_of m' ≡ joined_of joins_done.joined
  joined_table = ap table_in_of (joins_done.held.held z) ∙ put_held (joined_of joins_done.joined) m (joined_shaped joins_done.joins (held_shaped g))

  pub series_of : SeriesOf (table_in_of h) (table_in_of g) (table_in_of m')
  series_of =
      let joins = joins_done.joins in
      let by : JoinedOf (table_in_of h) (table_in_of g) (made_of (table_in_of m')) =
      record { joined = joins.joined; exactly = joins.exactly; number = sym made ∙ joins.number; table = joined_table ∙ joins.table }
      in
      record { joins = by; holds = in_series by }

pub alike_join : {h g m m' h₂ g₂ n n' : List ℕ} {r s : ℕ} → Alike (table_in_of h) (table_in_of h₂) → Alike (table_in_of g) (table_in_of g₂)
    → JoinGiven h g m m' r → r ≡ 0 → JoinGiven h₂ g₂ n n' s → s ≡ 0 → Alike (table_in_of m') (table_in_of n')
alike_join alike alike' h z k y = alike_joins _ _ _ _ _ _ alike alike' (series_of h z).joins (series_of k y).joins refl refl

pub joined_file : {f₁ f₂ m₁ m₂ h g m m' out out' a a' : List ℕ} → ReadGiven f₁ m₁ h 0 → ReadGiven f₂ m₂ g 0 → JoinGiven h g m m' 0
    → WriteGiven m' out out' a a' 0 → FileInSeries f₁ f₂ (take (get_or a' 0 0) out')
joined_file {f₁} {f₂} {m' = m'} {out} {out'} {a} {a'} one other k w =
    let joins : JoinedOf (table_of f₁) (table_of f₂) (made_of (table_in_of m')) = rw (read_table one refl, read_table other refl) at (series_of k refl).joins in
    let writes = done w.call (lent write_answer a m') refl in
    let wrote = wrote_accepted (series_of k refl).holds.accepted writes.wrote in
    let none = eq-eqb _ 0 (sym writes.given.code) in
    let count : file.length_of writes.writing ≡ length (write_of (table_in_of m')) = wrote.count ∙ rw none in
    let size : get_or a' 0 0 ≡ length (write_of (table_in_of m')) = ap (λ l. get_or l 0 0) (writes.given.answered refl) ∙ front a _ [] ∙ count in
    let buffer : out' ≡ put out 0 (write_of (table_in_of m')) = wrote.buffer ∙ rw none in
    rw (size, buffer, front_put out (write_of (table_in_of m'))) (files_in_series f₁ f₂ joins refl)

-- ---- tables that calls made

pub edited_accepted : {g h : List ℕ} {e : Edit} {r : ℕ} → accepted_of (table_in_of g) ≡ true → Holding g → Edits (table_in_of g) e g h r
    → accepted_of (table_in_of h) ≡ true
edited_accepted accepted long k = rw (edit_table long k) (one_accepted accepted k.by)

-- whether the call answers or returns 100
called_accepted : {g h : List ℕ} {e : Edit} {Long : Type 0} {r : ℕ} → accepted_of (table_in_of g) ≡ true → (Long → Holding g) → OrNot Long
    → Call Long (h ≡ g) (Edits (table_in_of g) e g h) r → accepted_of (table_in_of h) ≡ true
called_accepted accepted holds (inl long) k = edited_accepted accepted (holds long) (k.answers long)
called_accepted accepted holds (inr few) k = rw (k.short few).1 accepted

made_accepted : {h : List ℕ} → MadeIn h → accepted_of (table_in_of h) ≡ true
made_accepted (laws.read {f = f} g) = rw (read_table g refl) (read_accepted f)
made_accepted (laws.joined k) = (series_of k refl).holds.accepted
made_accepted (laws.appended {g = g} {line = line} m k) = called_accepted (made_accepted m) (λ l. l.0) (line_lent g line) k.call
made_accepted (laws.removed {g = g} m k) = called_accepted (made_accepted m) (λ l. l) (holding g) k.call

pub looks : {h : List ℕ} → MadeIn h → Looks (table_in_of h)
looks {h} m =
    let accepted = made_accepted m in
    record { useful = accepted_kept (table_in_of h) accepted; accepted = accepted; shaped = held_shaped h }

-- the set that is kept is what `useful_states` finds
kept_found : (t : Transducer) → accepted_of t ≡ true → Shaped t → UsefulStatesOf t (Ok t.useful)
kept_found t accepted shaped =
    record {
      number = rw accepted refl;
      refused = λ e. absurd (true≢false (sym accepted ∙ e));
      members = λ _. accepted_kept t accepted;
      long = shaped.useful;
    }

pub look_shows : {h flags flags₁ flags₂ : List ℕ} {r₁ r₂ : ℕ} → MadeIn h → LookGiven h flags flags₁ r₁ → StatesGiven h flags flags₂ r₂
    → (r₁ ≡ r₂) × (flags₁ ≡ flags₂)
look_shows {h} {flags} {flags₁} {flags₂} {r₁} {r₂} m one other =
    twice one.call other.call (holding h) shown (λ same _ k k'. (same, k ∙ sym k'))
  where
    shown : Flagged 0 (table_in_of h).useful.member flags flags₁ r₁ → FindsStates (table_in_of h) flags flags₂ r₂ → (r₁ ≡ r₂) × (flags₁ ≡ flags₂)
    shown look found =
        let kept = kept_found (table_in_of h) (made_accepted m) (held_shaped h) in
        let same = useful_states_determined (table_in_of h) _ found.found kept found.useful in
        flags_same (ap number_of same) (ap (λ u. (states_of u).member) same) look found.flagged
