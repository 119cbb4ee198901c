-- The test of a transducer's value that goes before anything else: its two sides, and what makes a value that passes. Assumes nothing.
use mathlib.Core.Path.{◌≡◌, refl, sym, ap, ◌∙◌}
use mathlib.Core.Bool.{Bool, true, false, beq, not}
use mathlib.Core.List.{List}
use mathlib.Core.Logic.{◌↔◌, ⊎_elim}
use Prim.Native.Nat.{ℕ, ◌≤◌, ◌<◌}
use borrow.Author.Tests.{not-true, not-false}
use Rattle.transducer.specs.Limits.{most_states}
use Rattle.transducer.specs.StateSet.{has, In}
use Rattle.transducer.specs.Valid.{Valid, valid_of, Shaped}
use Rattle.transducer.specs.Kept.{useful_set}
use Rattle.transducer.specs.Lines.{lines_of, transducer_of, useful_in, keeping_set, keeping, Keeps}
use Rattle.transducer.specs.Useful.{UsefulState}
use Rattle.transducer.specs.Accepted.{Kept, Accepted, same_states, accepted_of, Asked}
use Rattle.transducer.specs.declared.StateSet.{StateSet}
use Rattle.transducer.specs.declared.Transition.{Transition}
use Rattle.transducer.specs.declared.Transducer.{Transducer}
use Rattle.transducer.proofs.Bools.{le_or_lt, same_flag, and_left, and_right, and_both, all_at, all_of}
use Rattle.transducer.proofs.Facts.{valid_exactly}
use Rattle.transducer.proofs.StateSetLaws.{Long, has_above, same_set}
use Rattle.transducer.proofs.LineLaws.{made_lines, made_valid, made_keeping, keeping_valid, set_long}
use Rattle.transducer.proofs.KeptLaws.{useful_in_lem}

-- ---- what the test has answered

module _ {t : Transducer} {r : Bool} (h : Asked t r) where
  pub passed : not r ≡ false → accepted_of t ≡ true
  passed e = sym h.answer ∙ not-false _ e

  pub failed : not r ≡ true → accepted_of t ≡ false
  failed e = sym h.answer ∙ not-true _ e

-- ---- two sets with the same states

module _ (s r : StateSet) where
  abbrev alike : ℕ → Bool
  alike q = beq (has s q) (has r q)

  pub same_exactly : (same_states s r ≡ true) ↔ ((q : ℕ) → has s q ≡ has r q)
  unfolding same_states
  same_exactly = (
    λ e q.
        ⊎_elim
        (λ (h : most_states ≤ q). has_above s q h ∙ sym (has_above r q h))
        (λ (h : q < most_states). flags (has s q) (has r q) (all_at most_states alike e q h))
        (le_or_lt most_states q),
    λ f. all_of most_states alike (λ q h. rw (f q) (reflexive (has r q))),
  )
    where
      flags : (a b : Bool) → beq a b ≡ true → a ≡ b
      flags true true e = refl
      flags true false e = sym e
      flags false true e = e
      flags false false e = refl

      reflexive : (b : Bool) → beq b b ≡ true
      reflexive true = refl
      reflexive false = refl

-- ---- the test holds exactly of what is accepted

module _ (t : Transducer) where
  -- a set has the states of the one that is worked out exactly where it has the useful states
  set_exactly : (s : StateSet) → Valid t → ((q : ℕ) → has s q ≡ has (useful_in t) q) ↔ ((q : ℕ) → In s q ↔ UsefulState t q)
  set_exactly s valid = (
    λ f q. (λ h. (useful_in_lem t valid q).0 (sym (f q) ∙ h), λ u. f q ∙ (useful_in_lem t valid q).1 u),
    λ k q. same_flag (has s q) (has (useful_in t) q) (λ h. (useful_in_lem t valid q).1 ((k q).0 h)) (λ h. (k q).1 ((useful_in_lem t valid q).0 h)),
  )

  pub accepted_exactly : (accepted_of t ≡ true) ↔ Accepted t
  unfolding accepted_of
  accepted_exactly = (
    λ e.
        let valid = (valid_exactly t).0 (and_left (valid_of t) (same_states t.useful (useful_in t)) e) in
        record { valid = valid; kept = (set_exactly t.useful valid).0 ((same_exactly t.useful (useful_in t)).0 (and_right (valid_of t) (same_states t.useful (useful_in t)) e)) },
    λ a. and_both ((valid_exactly t).1 a.valid) ((same_exactly t.useful (useful_in t)).1 ((set_exactly t.useful a.valid).1 a.kept)),
  )

  -- what the test answers, where its arrays have their lengths
  pub asked : {r : Bool} → Shaped t → r ≡ accepted_of t → Asked t r
  asked s e = record { answer = e; means = rw e accepted_exactly; shaped = s }

  -- what is accepted keeps the rules
  pub accepted_valid : accepted_of t ≡ true → Valid t
  accepted_valid e = (accepted_exactly.0 e).valid

  -- and the set of its useful states
  pub accepted_kept : accepted_of t ≡ true → Kept t
  accepted_kept e = (accepted_exactly.0 e).kept

  -- a set that has exactly the useful states is the one that is worked out
  pub set_worked_out : {s : StateSet} → Valid t → Long s → ((q : ℕ) → In s q ↔ UsefulState t q) → s ≡ useful_in t
  set_worked_out {s} valid long k =
      same_set s (useful_in t) long (set_long t.states t.starts t.finals (lines_of t)) ((set_exactly s valid).1 k)

  -- so it is made of its own parts
  pub made_again : accepted_of t ≡ true → Shaped t → transducer_of t.states t.starts t.finals (lines_of t) ≡ t
  unfolding keeping
  made_again e s =
      let valid = accepted_valid e in
      made_keeping t valid s ∙ ap (keeping_set t) (sym (set_worked_out valid s.useful (accepted_kept e)))

-- ---- what is made is accepted

-- whatever the set was, once the useful states are worked out
pub keeping_accepted : (t : Transducer) → Valid t → accepted_of (keeping t) ≡ true
unfolding keeping accepted_of
keeping_accepted t v = and_both ((valid_exactly (keeping t)).1 ((keeping_valid t).1 v)) ((same_exactly (useful_in t) (useful_in t)).1 (λ q. refl))

-- exactly where its parts keep the rules
pub made_accepted : (n : ℕ) (starts finals : StateSet) (lines : List Transition)
    → (accepted_of (transducer_of n starts finals lines) ≡ true) ↔ Keeps n starts finals lines
unfolding transducer_of accepted_of
made_accepted n starts finals lines =
    let t = transducer_of n starts finals lines in (
      λ e. (made_valid n starts finals lines).0 ((valid_exactly t).0 (and_left (valid_of t) (same_states t.useful (useful_in t)) e)),
      λ k. and_both ((valid_exactly t).1 ((made_valid n starts finals lines).1 k))
          ((same_exactly t.useful (useful_in t)).1 (λ q. ap (λ x. has (useful_set n starts finals x) q) (sym (made_lines n starts finals lines)))),
    )

-- so where it keeps them itself
pub made_valid_accepted : (n : ℕ) (starts finals : StateSet) (lines : List Transition) → Valid (transducer_of n starts finals lines)
    → accepted_of (transducer_of n starts finals lines) ≡ true
made_valid_accepted n starts finals lines v = (made_accepted n starts finals lines).1 ((made_valid n starts finals lines).0 v)
