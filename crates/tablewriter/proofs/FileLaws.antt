-- Laws of the file's bytes: what is put of one state and of one transition, and the parts that the loops put. Assumes nothing.
use mathlib.Core.Path.{◌≡◌, refl, sym}
use mathlib.Core.Bool.{false}
use mathlib.Core.List.{List, [], ◌∷◌, ◌++◌, flat_map, append_assoc, append-nil}
use Prim.Native.Nat.{ℕ, zero, suc, ◌≤◌, ◌<◌}
use native.Mathlib.Omega.{arith}
use lib.ListN.{length, get_or, take}
use lib.Seq.{get_or-take}
use Rattle.std.proofs.lemmas.Grind.{flat_map-append}
use Rattle.std.proofs.lemmas.List.{length-take}
use Rattle.buffers.proofs.Parts.{below, in_row}
use Rattle.records.specs.Field.{columns}
use Rattle.records.specs.Letters.{letter_s, letter_f}
use Rattle.records.proofs.FilledLaws.{firsts_take}
use Rattle.records.specs.Record.{record_bytes}
use Rattle.transducer.specs.StateSet.{has, In}
use Rattle.transducer.specs.Transition.{at, outside, firsts, written_by}
use Rattle.transducer.specs.declared.StateSet.{StateSet}
use Rattle.transducer.specs.declared.Transition.{Transition}
use Rattle.transducer.specs.declared.Transducer.{Transducer}
use Rattle.tablewriter.specs.File.{state_at, states_below, states_of, state_bytes, transition_bytes, transition_bytes_below, header_bytes, write_of}

-- ---- states

module _ (letter : ℕ) (s : StateSet) where
  -- what is put of a state: its record where it is in the set, else nothing
  pub state_in_lem : (q : ℕ) → In s q → state_bytes letter (state_at s q) ≡ record_bytes columns letter (q ∷ [])
  unfolding state_bytes state_at flat_map
  state_in_lem q e = rw e (append-nil _)

  pub state_out : (q : ℕ) → has s q ≡ false → state_bytes letter (state_at s q) ≡ []
  unfolding state_bytes state_at flat_map
  state_out q e = rw e

  -- a part for each state
  pub states_parts : (n : ℕ) → state_bytes letter (states_below n s) ≡ below (λ q. state_bytes letter (state_at s q)) n
  unfolding state_bytes states_below flat_map below
  states_parts zero = refl
  states_parts (suc n) = rw (flat_map-append (λ q. record_bytes columns letter (q ∷ [])) (states_below n s) (state_at s n), states_parts n)

-- ---- transitions

module _ (t : Transducer) where
  -- the transitions that are counted, in a row
  module _ (i : ℕ) (inside : i < length (take t.count t.transitions)) where
    pub counted_below : i < t.count
    counted_below = omega (arith, length-take t.count t.transitions)

    pub counted_at : get_or (take t.count t.transitions) i outside ≡ at t i
    counted_at = get_or-take t.count t.transitions i outside counted_below

  -- a part for each transition
  pub transitions_parts : (n : ℕ) → transition_bytes_below t n ≡ below (λ l. transition_bytes (at t l)) n
  unfolding transition_bytes_below firsts flat_map below
  transitions_parts zero = refl
  transitions_parts (suc n) = rw (flat_map-append transition_bytes (firsts n (at t)) (at t n ∷ []), transitions_parts n, append-nil)

-- the output codes that are counted are those that the transition writes
pub codes_taken : (v : Transition) → v.count ≤ length v.output → take v.count v.output ≡ written_by v
codes_taken v h = sym (firsts_take (record { 0 = 0 }) v.count v.output h)

-- ---- the file

-- the file's four parts
abbrev pub file_parts : Transducer → List (List ℕ)
file_parts t = header_bytes t ∷ state_bytes letter_s (states_of t.starts) ∷ state_bytes letter_f (states_of t.finals) ∷ transition_bytes_below t t.count ∷ []

pub file_row : (t : Transducer) → write_of t ≡ below (in_row (file_parts t)) 4
unfolding write_of below
file_row t = refl

-- the parts one behind the other, and something behind the file
pub file_then : (t : Transducer) (rest : List ℕ)
    → write_of t ++ rest
    ≡ header_bytes t ++ (state_bytes letter_s (states_of t.starts) ++ (state_bytes letter_f (states_of t.finals) ++ (transition_bytes_below t t.count ++ rest)))
unfolding write_of
file_then t rest = simp append_assoc
