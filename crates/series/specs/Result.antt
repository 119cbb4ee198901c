-- The result of joining two transducers in series, where `joined` tells the joined pairs by their numbers: its states, its lines and their order
-- (document 02, job 3).
use Rattle.std.specs.Prelude.{Bool, false, cond, ◌&&◌, List, [], ◌∷◌, ◌++◌, map, ℕ, zero, suc, ◌-◌, eqb, length, replicate}
use Rattle.transducer.specs.Limits.{most_states}
use Rattle.transducer.specs.StateSet.{has}
use Rattle.transducer.specs.Transition.{at}
use Rattle.transducer.specs.Blank.{clear_transition, blank_transducer}
use Rattle.transducer.specs.Lines.{transducer_of}
use Rattle.transducer.specs.declared.StateSet.{StateSet}
use Rattle.transducer.specs.declared.Transition.{Transition}
use Rattle.transducer.specs.declared.Transducer.{Transducer}
use Rattle.product.specs.Numbers.{most_pairs, pair_of, first_of, second_of}
use Rattle.joints.specs.Joint.{after, joint_step}

-- the lists f 0, f 1, .., f (n - 1) joined
unfoldable pub gather : {A : Type 0} → ℕ → (ℕ → List A) → List A
gather zero f = []
gather (suc n) f = gather n f ++ f n

-- the element where the test holds, else nothing
abbrev pub only_if : {A : Type 0} → Bool → A → List A
only_if test x = cond test (x ∷ []) []

-- ---- states: the joined pairs, numbered by first state, then second

-- the joined pairs below v, in order
unfoldable pub pairs_below : (ℕ → Bool) → ℕ → List ℕ
pairs_below joined v = gather v (λ u. only_if (joined u) u)

-- the state of the result that a joined pair becomes: as many joined pairs stand before it
abbrev pub state_of : (ℕ → Bool) → ℕ → ℕ
state_of joined v = length (pairs_below joined v)

-- all joined pairs
abbrev pub pairs : (ℕ → Bool) → List ℕ
pairs joined = pairs_below joined most_pairs

-- whether the two states of the pair v are in the two sets
abbrev pub both_have : StateSet → StateSet → ℕ → Bool
both_have s s' v = has s (first_of v) && has s' (second_of v)

-- the states that pairs become whose first state is in s and whose second is in s'
unfoldable pub both_in_of : (ℕ → Bool) → StateSet → StateSet → StateSet
both_in_of joined s s' = record { member = map (both_have s s') (pairs joined) ++ replicate (most_states - length (pairs joined)) false }

-- ---- lines: the steps between joined pairs

-- the transition that a side takes in a step; where it takes none, one that reads and writes nothing
abbrev pub taken : Transducer → ℕ → Transition
taken t zero = clear_transition
taken t (suc l) = at t l

-- the pair that the step a, b enters from the pair v
abbrev pub entered : Transducer → Transducer → ℕ → ℕ → ℕ → ℕ
entered first second v a b = pair_of (after first (first_of v) a) (after second (second_of v) b)

module _ (first second : Transducer) (joined : ℕ → Bool) where
  -- whether a, b is a step from the joined pair v to a joined pair
  unfoldable pub leads : ℕ → ℕ → ℕ → Bool
  leads v a b = joined v && joint_step first second (first_of v) (second_of v) a b && joined (entered first second v a b)

  -- the line that it becomes: it reads what the first reads and writes what the second writes
  abbrev pub step_line_of : ℕ → ℕ → ℕ → Transition
  step_line_of v a b =
      record {
        from = state_of joined v;
        to = state_of joined (entered first second v a b);
        input = (taken first a).input;
        count = (taken second b).count;
        output = (taken second b).output;
      }

  -- the lines of the steps from v in which the first takes a, ordered by what the second takes (none, which is 0, first)
  unfoldable pub row_lines : ℕ → ℕ → List Transition
  row_lines v a = gather (suc second.count) (λ b. only_if (leads v a b) (step_line_of v a b))

  -- the lines of the result, ordered by the pair that they leave, then by what the first takes (none first)
  unfoldable pub lines : List Transition
  lines = gather most_pairs (λ v. gather (suc first.count) (row_lines v))

  -- the transducer whose states are the joined pairs
  unfoldable pub pair_transducer : Transducer
  pair_transducer =
      transducer_of (length (pairs joined)) (both_in_of joined first.starts second.starts) (both_in_of joined first.finals second.finals) lines

  -- the result: the blank transducer where there is no joined pair
  unfoldable pub result_of : Transducer
  result_of = cond (eqb (length (pairs joined)) 0) blank_transducer pair_transducer
