-- How long the file is. Assumes nothing.
use mathlib.Core.Path.{◌≡◌, refl, sym, ap, ◌∙◌}
use mathlib.Core.Bool.{Bool, true, false, cond}
use mathlib.Core.List.{List, [], ◌∷◌, ◌++◌, flat_map, append-nil}
use Prim.Native.Nat.{ℕ, zero, suc, ◌+◌, ◌*◌, ◌≤◌}
use native.Mathlib.Numerals.{add-one}
use native.Mathlib.Omega.{arith}
use lib.ListN.{length, get_or, take, length-append, length-map}
use lib.Seq.{take_all}
use Rattle.std.specs.List.{count_by, sum_by}
use Rattle.std.proofs.lemmas.List.Sums.{count_by_more_yes, count_by_more_no, sum_by_more}
use Rattle.buffers.proofs.Parts.{below}
use Rattle.records.specs.Field.{columns}
use Rattle.records.specs.Letters.{letter_t, letter_s, letter_f, letter_l, most_bytes}
use Rattle.records.specs.Record.{record_bytes}
use Rattle.records.proofs.RecordBytes.{length_record}
use Rattle.transducer.specs.Limits.{most_states, most_outputs}
use Rattle.transducer.specs.StateSet.{has, In}
use Rattle.transducer.specs.Transition.{at, outside, written_by, bytes_of}
use Rattle.transducer.specs.Valid.{Valid}
use Rattle.transducer.specs.declared.OutputCode.{OutputCode}
use Rattle.transducer.specs.declared.StateSet.{StateSet}
use Rattle.transducer.specs.declared.Transition.{Transition}
use Rattle.transducer.specs.declared.Transducer.{Transducer}
use Rattle.transducer.proofs.StateSetLaws.{has_listed}
use Rattle.transducer.proofs.SizeLaws.{length_written}
use Rattle.tablewriter.specs.File.{state_at, states_below, states_of, size_of, state_bytes, transition_bytes, transition_bytes_below, outputs_below, all_outputs, header_bytes, write_of}
use Rattle.tablewriter.proofs.FileLaws.{transitions_parts}

-- ---- sets of states and output codes

module _ (s : StateSet) (q : ℕ) where
  pub size_in : In s q → length (states_below (q + 1) s) ≡ length (states_below q s) + 1
  unfolding states_below state_at
  size_in e = rw (add-one q, e) (length-append (states_below q s) (q ∷ []))

  pub size_out : has s q ≡ false → length (states_below (q + 1) s) ≡ length (states_below q s)
  unfolding states_below state_at
  size_out e = rw (add-one q, e, append-nil)

one_state : (s : StateSet) (q : ℕ) → length (state_at s q) ≤ 1
unfolding state_at
one_state s q = go (has s q)
  where
    go : (b : Bool) → length (cond b (q ∷ []) []) ≤ 1
    go true = omega arith
    go false = omega arith

-- at most n states are below n
pub few_states : (s : StateSet) (n : ℕ) → length (states_below n s) ≤ n
unfolding states_below
few_states s zero = omega arith
few_states s (suc n) = omega (arith, length-append (states_below n s) (state_at s n), one_state s n, few_states s n)

-- the states of a set are counted by its places
states_counted : (s : StateSet) → length s.member ≡ most_states → (n : ℕ) → n ≤ most_states
    → length (states_below n s) ≡ count_by (λ (x : Bool). x) (take n s.member)
unfolding states_below
states_counted s size zero h = refl
states_counted s size (suc n) h = go (get_or s.member n false) refl (states_counted s size n (omega arith))
  where
    go : (x : Bool) → get_or s.member n false ≡ x → length (states_below n s) ≡ count_by (λ (x : Bool). x) (take n s.member)
        → length (states_below (suc n) s) ≡ count_by (λ (x : Bool). x) (take (suc n) s.member)
    go true e before =
        omega (arith, rw (add-one n) at (size_in s n (has_listed s n size ∙ e)), rw (add-one n) at (count_by_more_yes (λ (x : Bool). x) s.member n false (omega arith) e))
    go false e before =
        omega (arith, rw (add-one n) at (size_out s n (has_listed s n size ∙ e)), rw (add-one n) at (count_by_more_no (λ (x : Bool). x) s.member n false (omega arith) e))

pub size_counted : (s : StateSet) → length s.member ≡ most_states → count_by (λ (x : Bool). x) s.member ≡ size_of s
unfolding size_of
size_counted s size = sym (states_counted s size most_states (omega arith) ∙ ap (count_by (λ (x : Bool). x)) (take_all most_states s.member (omega arith)))

-- a set has at most 32 states
pub size_most : (s : StateSet) → size_of s ≤ most_states
unfolding size_of
size_most s = few_states s most_states

-- the output codes are summed over the transitions
pub outputs_summed : (t : Transducer) (n : ℕ) → n ≤ length t.transitions → sum_by (λ (v : Transition). v.count) (take n t.transitions) ≡ outputs_below t n
unfolding outputs_below
outputs_summed t zero h = refl
outputs_summed t (suc n) h =
    rw add-one at (sum_by_more (λ (v : Transition). v.count) t.transitions n outside h) ∙ ap (λ (k : ℕ). k + (at t n).count) (outputs_summed t n (omega arith))

-- a transition has at most 8 output codes
pub few_outputs : (t : Transducer) → Valid t → (n : ℕ) → n ≤ t.count → outputs_below t n ≤ most_outputs * n
unfolding outputs_below
few_outputs t v zero h = omega arith
few_outputs t v (suc n) h = omega (arith, few_outputs t v n (omega arith), (v.used n h).few_outputs)

-- ---- records

length_states : (letter : ℕ) (states : List ℕ) → length (state_bytes letter states) ≡ 6 * length states
unfolding state_bytes flat_map
length_states letter [] = refl
length_states letter (q ∷ qs) =
    omega (arith, length-append (record_bytes columns letter (q ∷ [])) (state_bytes letter qs), length_record columns letter (q ∷ []), length_states letter qs)

length_transition : (v : Transition) → length (transition_bytes v) ≡ 18 + 4 * v.count
unfolding transition_bytes
length_transition v =
    let codes : length (bytes_of (written_by v)) ≡ v.count = length-map (written_by v) (λ (c : OutputCode). c.0) ∙ length_written v in
    omega (arith, length_record columns letter_l (v.from ∷ v.to ∷ v.input.0 ∷ v.count ∷ bytes_of (written_by v)))

length_transitions : (t : Transducer) (n : ℕ) → length (transition_bytes_below t n) ≡ 18 * n + 4 * outputs_below t n
unfolding outputs_below below
length_transitions t n = ap length (transitions_parts t n) ∙ go n
  where
    go : (n : ℕ) → length (below (λ l. transition_bytes (at t l)) n) ≡ 18 * n + 4 * outputs_below t n
    go zero = refl
    go (suc n) = omega (arith, length-append (below (λ l. transition_bytes (at t l)) n) (transition_bytes (at t n)), length_transition (at t n), go n)

-- ---- the file

-- a file has 18 + 6 × (starts + finals) + 18 × k + 4 × (all output codes) bytes
pub written_length : (t : Transducer) → length (write_of t) ≡ 18 + 6 * (size_of t.starts + size_of t.finals) + 18 * t.count + 4 * all_outputs t
unfolding write_of header_bytes size_of
written_length t =
    let header = header_bytes t in
    let starts = state_bytes letter_s (states_of t.starts) in
    let finals = state_bytes letter_f (states_of t.finals) in
    let transitions = transition_bytes_below t t.count in
    omega (
      arith,
      length-append (header ++ starts ++ finals) transitions,
      length-append (header ++ starts) finals,
      length-append header starts,
      length_record columns letter_t (t.states ∷ size_of t.starts ∷ size_of t.finals ∷ t.count ∷ []),
      length_states letter_s (states_of t.starts),
      length_states letter_f (states_of t.finals),
      length_transitions t t.count,
    )

-- a valid transducer's file is not longer than the longest
pub written_at_most : (t : Transducer) → Valid t → length (write_of t) ≤ most_bytes
written_at_most t v =
    omega (
      arith,
      written_length t,
      size_most t.starts,
      size_most t.finals,
      few_outputs t v t.count (omega arith),
    )
