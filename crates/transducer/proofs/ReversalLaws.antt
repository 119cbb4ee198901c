-- Laws of the reversed transducer: its transitions lead the other way, and it keeps the rules. Assumes nothing.
use mathlib.Core.Path.{◌≡◌, refl, sym, ap, ◌∙◌, subst}
use mathlib.Core.List.{List, [], ◌∷◌, ◌++◌}
use mathlib.Core.Logic.{◌↔◌}
use Prim.Native.Nat.{ℕ}
use lib.ListN.{get_or-map}
use Rattle.transducer.specs.Transition.{at, outside}
use Rattle.transducer.specs.Valid.{Used, Clear, Valid}
use Rattle.transducer.specs.Paths.{Path, here, step}
use Rattle.transducer.specs.Walks.{Edge}
use Rattle.transducer.specs.Reversal.{turned_of, reversed_of}
use Rattle.transducer.specs.declared.Transition.{Transition}
use Rattle.transducer.specs.declared.Transducer.{Transducer}
use Rattle.transducer.proofs.PathLaws.{path_join}

module _ (t : Transducer) where
  -- transition l is turned
  pub reversed_at : (l : ℕ) → at (reversed_of t) l ≡ turned_of (at t l)
  unfolding reversed_of
  reversed_at l = get_or-map turned_of t.transitions l outside

  -- it leads from q to p exactly where it led from p to q
  pub reversed_edge : {l p q : ℕ} → Edge (reversed_of t) l p q ↔ Edge t l q p
  unfolding reversed_of
  reversed_edge {l} = (
    λ e. record { used = e.used; source = ap (λ v. v.to) (sym (reversed_at l)) ∙ e.target; target = ap (λ v. v.from) (sym (reversed_at l)) ∙ e.source },
    λ e. record { used = e.used; source = ap (λ v. v.from) (reversed_at l) ∙ e.target; target = ap (λ v. v.to) (reversed_at l) ∙ e.source },
  )

-- where every transition of t leads the other way in t', so does every path
turned_path : {t t' : Transducer} {p q : ℕ} {π : List ℕ} → ((l p q : ℕ) → Edge t l p q → Edge t' l q p) → Path t p π q → (ρ : List ℕ) × Path t' q ρ p
turned_path turn (here e) = ([], here (sym e))
turned_path turn (step {l = l} a b h) =
    let r = turned_path turn h in
    let e = turn l _ _ (record { used = a; source = b; target = refl }) in
    (r.0 ++ (l ∷ []), path_join r.1 (step e.used e.source (here e.target)))

-- a path leads from p to q exactly where one of the reversed transducer leads from q to p
pub reversed_path : (t : Transducer) {p q : ℕ} → ((π : List ℕ) × Path (reversed_of t) p π q) ↔ ((ρ : List ℕ) × Path t q ρ p)
reversed_path t = (λ h. turned_path (λ l p q. (reversed_edge t).0) h.1, λ h. turned_path (λ l p q. (reversed_edge t).1) h.1)

used_turned : {n : ℕ} {v : Transition} → Used n v → Used n (turned_of v)
used_turned u =
    record {
      from_state = u.to_state;
      to_state = u.from_state;
      input_code = u.input_code;
      few_outputs = u.few_outputs;
      least_code = u.least_code;
      largest_code = u.largest_code;
      beyond_zero = u.beyond_zero;
    }

clear_turned : {v : Transition} → Clear v → Clear (turned_of v)
clear_turned u =
    record {
      from_zero = u.to_zero;
      to_zero = u.from_zero;
      input_zero = u.input_zero;
      count_zero = u.count_zero;
      outputs_zero = u.outputs_zero;
    }

-- the reversed transducer keeps the rules
pub reversed_valid : (t : Transducer) → Valid t → Valid (reversed_of t)
unfolding reversed_of
reversed_valid t f =
    record {
      some_state = f.some_state;
      few_states = f.few_states;
      start_state = f.final_state;
      final_state = f.start_state;
      few_transitions = f.few_transitions;
      used = λ l h. subst (Used t.states) (sym (reversed_at t l)) (used_turned (f.used l h));
      beyond_clear = λ l h k. subst Clear (sym (reversed_at t l)) (clear_turned (f.beyond_clear l h k));
    }
