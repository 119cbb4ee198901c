-- What the sets of steps reach is what a path leads to; and a state is useful exactly when it is accessible in the transducer and in the reversed
-- one. Assumes nothing.
use mathlib.Core.Path.{refl}
use mathlib.Core.List.{List, [], ◌∷◌, ◌++◌}
use mathlib.Core.Logic.{◌↔◌}
use Prim.Native.Nat.{ℕ}
use Rattle.transducer.specs.StateSet.{In}
use Rattle.transducer.specs.Transition.{at}
use Rattle.transducer.specs.Paths.{Path, here, step}
use Rattle.transducer.specs.Useful.{UsefulState}
use Rattle.transducer.specs.Reversal.{reversed_of}
use Rattle.transducer.specs.declared.StateSet.{StateSet}
use Rattle.transducer.specs.declared.Transducer.{Transducer}
use Rattle.transducer.proofs.PathLaws.{path_join}
use Rattle.transducer.proofs.ReversalLaws.{reversed_path}
use Rattle.useful.specs.Sets.{Has, StepsOf, Reached}
use Rattle.useful.specs.UsefulStates.{CommonOf}

-- a path from a start state leads to q
record Accessible (t : Transducer) (q : ℕ) : Type 0 where
  first : ℕ
  front : List ℕ
  starts : In t.starts first
  comes : Path t first front q

module _ {t : Transducer} {list : List ℕ} {s : ℕ} (steps : StepsOf t list) (starts : (q : ℕ) → Has s q ↔ In t.starts q) where
  -- what is reached is accessible
  reached_accessible : {q : ℕ} → Reached list s q → Accessible t q
  reached_accessible (Reached.start {q = q} h) = record { first = q; front = []; starts = (starts q).0 h; comes = here refl }
  reached_accessible (Reached.step {p = p} {q = q} r h) =
      let a = reached_accessible r in
      let e = (steps.leads p q).0 h in
      record {
        first = a.first;
        front = a.front ++ (e.0 ∷ []);
        starts = a.starts;
        comes = path_join a.comes (step e.1.used e.1.source (here e.1.target));
      }

  -- a path goes on from what is reached
  reached_along : {p q : ℕ} {π : List ℕ} → Reached list s p → Path t p π q → Reached list s q
  reached_along r (here e) = rw (← e) r
  reached_along {p} r (step {l = l} u f h) =
      reached_along (Reached.step r ((steps.leads p (at t l).to).1 (l, record { used = u; source = f; target = refl }))) h

  -- what is reached is exactly what is accessible
  accessible : {r : ℕ} → ((q : ℕ) → Has r q ↔ Reached list s q) → (q : ℕ) → Has r q ↔ Accessible t q
  accessible found q = (
    λ h. reached_accessible ((found q).0 h),
    λ a. (found q).1 (reached_along (Reached.start ((starts a.first).1 a.starts)) a.comes),
  )

-- a state is useful exactly when it is accessible from the start states, and backwards from the final states
useful_accessible : {t : Transducer} {q : ℕ} → UsefulState t q ↔ (Accessible t q × Accessible (reversed_of t) q)
unfolding reversed_of
useful_accessible {t} = (
  λ u.
      let b = (reversed_path t).1 (u.back, u.goes) in (
        record { first = u.first; front = u.front; starts = u.starts; comes = u.comes },
        record { first = u.last; front = b.0; starts = u.ends; comes = b.1 },
      ),
  λ a.
      let b = (reversed_path t).0 (a.1.front, a.1.comes) in
      record {
        first = a.0.first;
        last = a.1.first;
        front = a.0.front;
        back = b.0;
        starts = a.0.starts;
        comes = a.0.comes;
        goes = b.1;
        ends = a.1.starts;
      },
)

-- what is reached both ways is what is useful
pub useful_members : {t : Transducer} {ahead back : List ℕ} {starts finals a b : ℕ} {s : StateSet} → StepsOf t ahead → StepsOf (reversed_of t) back
    → ((q : ℕ) → Has starts q ↔ In t.starts q) → ((q : ℕ) → Has finals q ↔ In t.finals q)
    → ((q : ℕ) → Has a q ↔ Reached ahead starts q) → ((q : ℕ) → Has b q ↔ Reached back finals q)
    → CommonOf a b s → (q : ℕ) → In s q ↔ UsefulState t q
unfolding reversed_of
useful_members there back starts finals reached reaching c q =
    let f = accessible there starts reached q in
    let g = accessible back finals reaching q in (
      λ i. let m = (c.members q).0 i in useful_accessible.1 (f.0 m.0, g.0 m.1),
      λ u. let m = useful_accessible.0 u in (c.members q).1 (f.1 m.0, g.1 m.1),
    )
