-- The records of states: a turn of their reading, and that what is read is below n, also where a record is refused. Assumes nothing.
use mathlib.Core.Path.{◌≡◌, refl, ◌∙◌}
use mathlib.Core.Bool.{Bool, true, false, cond, ◌&&◌}
use mathlib.Core.List.{List}
use Prim.Native.Nat.{ℕ, zero, suc, ◌+◌, ◌-◌, ◌≤◌, ◌<◌}
use native.Mathlib.Nat.{not-suc-le-zero}
use native.Mathlib.Omega.{arith}
use borrow.Author.Tests.{ltb-true}
use lib.Dec.{ltb}
use lib.ListN.{length, get_or, set, replicate, length-set}
use Rattle.transducer.specs.Limits.{most_states}
use Rattle.transducer.specs.StateSet.{has, In, no_states, with_state}
use Rattle.transducer.specs.declared.StateSet.{StateSet}
use Rattle.transducer.proofs.Bools.{and_right}
use Rattle.records.specs.Reading.{values_at, record_at}
use Rattle.records.specs.declared.reading.Number.{Number}
use Rattle.records.proofs.RangeLaws.{values_within}
use Rattle.std.specs.Prelude.{Ok}
use Rattle.tablereader.specs.Outcome.{Outcome, outcome_for, ◌▸◌}
use Rattle.tablereader.specs.Record.{state_ranges, state_size}
use Rattle.tablereader.specs.States.{state_record_of, read_states_of, states_from}
use Rattle.tablereader.proofs.Stores.{after_set}

module _ (text : List ℕ) (letter n at low : ℕ) where
  -- a state that is read is below n, also where its record is refused
  pub state_below : (r : Number) → r ≡ state_record_of text letter n at low → 1 ≤ n → r.value < n
  unfolding state_record_of record_at values_at
  state_below r e h =
      let high = (values_within text (n - 1) (at + 1) (state_ranges n low) (omega arith, omega arith, tt)).0.1 in
      rw e (omega arith)

  module _ (rec : ℕ) (outcome : Outcome) (states : StateSet) where
    pub state_turn : (k k' at' rec' : ℕ) (r : Number) (here after : Outcome) (states' : StateSet) → k ≡ suc k' → at' ≡ at + state_size → rec' ≡ rec + 1
        → r ≡ state_record_of text letter n at low → here ≡ outcome_for r.fault rec → after ≡ outcome ▸ here → states' ≡ with_state states r.value
        → read_states_of k text letter n at low rec outcome states ≡ read_states_of k' text letter n at' (r.value + 1) rec' after states'
    unfolding read_states_of
    state_turn k k' at' rec' r here after states' left place number e o a w = rw (left, place, number, a, o, w, e)

    pub states_done : (k : ℕ) → k ≤ 0 → read_states_of k text letter n at low rec outcome states ≡ record { outcome = outcome; set = states }
    unfolding read_states_of
    states_done zero h = refl
    states_done (suc k) h = absurd (not-suc-le-zero h)

-- ---- what was read is a set of states below n

-- every state of the set is below n, and its array has its length
pub record Below (n : ℕ) (s : StateSet) : Type 0 where
  pub below : (q : ℕ) → In s q → q < n
  pub size : length s.member ≡ most_states

none_below : (n : ℕ) → Below n no_states
unfolding has
none_below n = record { below = λ q h. absurd (never q (and_right (ltb q most_states) (get_or (replicate most_states false) q false) h)); size = refl }
  where
    none : (k q : ℕ) → get_or (replicate k false) q false ≡ false
    none zero q = refl
    none (suc k) zero = refl
    none (suc k) (suc q) = none k q

    never : (q : ℕ) → get_or (replicate most_states false) q false ≡ true → ⊥
    never q e = let f = none most_states q in let z : ◌≡◌ {A = ℕ} 0 1 = cc in omega arith

with_below : (n v : ℕ) (s : StateSet) → v < n → Below n s → Below n (with_state s v)
unfolding with_state has
with_below n v s h b = go (ltb v most_states) refl
  where
    go : (x : Bool) → ltb v most_states ≡ x → Below n (cond x (record { member = set s.member v true }) s)
    go false e = b
    go true e =
        record {
          below =
              λ q. after_set (λ x. (ltb q most_states && x) ≡ true → q < n) s.member v q true false (omega (arith, b.size, ltb-true v most_states e))
              (λ same i. omega arith) (λ other i. b.below q i);
          size = length-set s.member v true ∙ b.size;
        }

states_below_lem : (k : ℕ) (text : List ℕ) (letter n at low rec : ℕ) (outcome : Outcome) (s : StateSet) → 1 ≤ n → Below n s
    → Below n (read_states_of k text letter n at low rec outcome s).set
unfolding read_states_of
states_below_lem zero text letter n at low rec outcome s h b = b
states_below_lem (suc k) text letter n at low rec outcome s h b =
    states_below_lem k text letter n _ _ _ _ _ h (with_below n _ s (state_below text letter n at low (state_record_of text letter n at low) refl h) b)

pub states_from_below : (count : ℕ) (text : List ℕ) (letter n at first : ℕ) → 1 ≤ n → Below n (states_from count text letter n at first).set
unfolding states_from
states_from_below count text letter n at first h = states_below_lem count text letter n at 0 first (Ok tt) no_states h (none_below n)
