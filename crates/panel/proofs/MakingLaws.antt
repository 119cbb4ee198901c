-- What the calls make keeps the set of its useful states: the statements of specs/Makings.antt hold. Assumes nothing.
use mathlib.Core.Path.{◌≡◌, refl, sym, ap, subst, ◌∙◌}
use mathlib.Core.Bool.{Bool, true, false, cond}
use mathlib.Core.Logic.{inl, inr}
use lib.Dec.{eqb}
use Rattle.transducer.specs.Blank.{blank_transducer}
use Rattle.transducer.specs.Valid.{Shaped}
use Rattle.transducer.specs.Accepted.{accepted_of}
use Rattle.transducer.specs.declared.Transducer.{Transducer}
use Rattle.transducer.proofs.AcceptedLaws.{accepted_kept}
use Rattle.transducer.proofs.BlankLaws.{blank_accepted, blank_shaped}
use Rattle.std.specs.Prelude.{Result}
use Rattle.transducer.specs.declared.refusals.Refusal.{Refusal}
use Rattle.tablereader.specs.Outcome.{table_of_reading}
use Rattle.tablereader.specs.Reader.{read_of}
use Rattle.tablereader.proofs.Validity.{read_accepted}
use Rattle.tablereader.proofs.ReadLaws.{read_shaped}
use Rattle.edits.specs.Edits.{Edit, refusal_of, edit_of, edited_of, EditedBy}
use Rattle.edits.proofs.RowLaws.{one_accepted, one_refused}
use Rattle.edits.proofs.MadeLaws.{call_there}
use Rattle.series.specs.Join.{joined_of, JoinedOf}
use Rattle.series.proofs.SeriesLaws.{in_series, joined_shaped, joined_determined}
use Rattle.series.proofs.ThereLaws.{join_there}
use Rattle.panel.specs.Makings.{Making, blank, read, edited, joined, MadeBy, Looks, LooksUseful, EditKeeps, MakersKeep}

-- ---- of all that is made

-- what is accepted keeps its useful states
shows : (t : Transducer) → accepted_of t ≡ true → Shaped t → Looks t
shows t a s = record { useful = accepted_kept t a; accepted = a; shaped = s }

looks : (m : Making) (t : Transducer) → MadeBy m t → Looks t
looks blank t e = rw e (shows blank_transducer blank_accepted blank_shaped)
looks (read text) t e = rw e (shows (table_of_reading (read_of text)) (read_accepted text) (read_shaped text))
looks (edited m e w) t (t', r, made, h, same) = rw same (shows (edited_of t' r) (one_accepted (looks m t' made).accepted h) h.shaped)
looks (joined m m') t (first, second, r, made, made', h, same) =
    rw same (shows (joined_of r) (in_series h).accepted (joined_shaped h (looks m' second made').shaped))

there : (m : Making) → (t : Transducer) × MadeBy m t
there blank = (blank_transducer, refl)
there (read text) = (table_of_reading (read_of text), refl)
there (edited m e w) =
    let before = there m in
    let shown = looks m before.0 before.1 in
    let one = call_there before.0 e shown.accepted shown.shaped w in
    (edited_of before.0 one.answer, (before.0, one.answer, before.1, one.answers, refl))
there (joined m m') =
    let first = there m in
    let second = there m' in
    let one = join_there first.0 second.0 in
    (joined_of one.answer, (first.0, second.0, one.answer, first.1, second.1, one.answers, refl))

-- the same edit of the same transducer, and the same join
edit_same : {t t' : Transducer} {e : Edit} {r r' : Result Transducer Refusal} → t ≡ t' → EditedBy t e r → EditedBy t' e r' → edited_of t r ≡ edited_of t' r'
edit_same {e = e} same h h' = h.table ∙ ap (λ t. cond (eqb (refusal_of t e) 0) (edit_of t e) t) same ∙ sym h'.table

join_same : {t t' u u' : Transducer} {r r' : Result Transducer Refusal} → t ≡ t' → u ≡ u' → JoinedOf t u r → JoinedOf t' u' r' → joined_of r ≡ joined_of r'
join_same {t' = t'} {u = u} {r = r} same same' h h' =
    ap joined_of (joined_determined (subst (λ x. JoinedOf t' x r) same' (subst (λ x. JoinedOf x u r) same h)) h')

determined : (m : Making) (t t' : Transducer) → MadeBy m t → MadeBy m t' → t ≡ t'
determined blank t t' e e' = e ∙ sym e'
determined (read text) t t' e e' = e ∙ sym e'
determined (edited m e w) t t' (u, r, made, h, same) (u', r', made', h', same') = same ∙ edit_same (determined m u u' made made') h h' ∙ sym same'
determined (joined m m') t t' (u, v, r, made, other, h, same) (u', v', r', made', other', h', same') =
    same ∙ join_same (determined m u u' made made') (determined m' v v' other other') h h' ∙ sym same'

pub looks_useful : LooksUseful
looks_useful = record { looks = looks; there = there; determined = determined }

-- ---- each call, given any value

-- past 8 an edit keeps the set, and with 8 it hands back what it was given
edit_keeps : {t : Transducer} {e : Edit} {r : Result Transducer Refusal} → EditedBy t e r → EditKeeps t r
edit_keeps {t} {e} {r} h = go (accepted_of t) refl
  where
    go : (b : Bool) → accepted_of t ≡ b → EditKeeps t r
    go true a = record { keeps = inr (accepted_kept (edited_of t r) (one_accepted a h)) }
    go false a = record { keeps = inl (one_refused a h) }

pub makers_keep : MakersKeep
makers_keep =
    record {
      blank = accepted_kept blank_transducer blank_accepted;
      read = λ text. accepted_kept _ (read_accepted text);
      edit = edit_keeps;
      join = λ h. accepted_kept _ (in_series h).accepted;
    }
