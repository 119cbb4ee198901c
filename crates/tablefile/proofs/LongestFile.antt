-- The longest file: that of the transducer with every state as a start state and as a final state, and every transition with all its output codes. It is
-- taken, since it is written, and it has as many bytes as a file can have. Assumes nothing.
use mathlib.Core.Path.{◌≡◌, refl, ap, ◌∙◌}
use mathlib.Core.Bool.{true, false}
use mathlib.Core.List.Memᴰ
use mathlib.Core.Logic.{⊎_elim}
use Prim.Native.Nat.{ℕ, zero, suc, ◌*◌, ◌≤◌, ◌<◌}
use native.Mathlib.Numerals.{add-one}
use native.Mathlib.Omega.{arith}
use borrow.Author.Tests.{ltb-true, lt-ltb}
use lib.Dec.{ltb}
use lib.ListN.{length, get_or, replicate, length-replicate, get_or-replicate}
use Rattle.records.specs.Letters.{most_bytes}
use Rattle.transducer.specs.Limits.{most_states, most_transitions, most_outputs}
use Rattle.transducer.specs.StateSet.{has, In}
use Rattle.transducer.specs.Transition.{outside, at, output_at}
use Rattle.transducer.specs.Valid.{Used, Shaped}
use Rattle.transducer.specs.Lines.{transducer_of, Among}
use Rattle.transducer.specs.Accepted.{accepted_of}
use Rattle.transducer.specs.declared.OutputCode.{OutputCode}
use Rattle.transducer.specs.declared.StateSet.{StateSet}
use Rattle.transducer.specs.declared.Transition.{Transition}
use Rattle.transducer.specs.declared.Transducer.{Transducer}
use Rattle.transducer.proofs.Bools.{and_left}
use Rattle.transducer.proofs.LineLaws.{made_at, made_shaped}
use Rattle.transducer.proofs.AcceptedLaws.{made_accepted}
use Rattle.tablereader.specs.Outcome.{number_of}
use Rattle.tablereader.proofs.TransitionRecords.{no_code}
use Rattle.tablewriter.specs.File.{states_below, size_of, outputs_below, write_of}
use Rattle.tablewriter.proofs.LengthLaws.{size_in, written_length}
use Rattle.tablefile.specs.RoundTrips.{LongestTaken}
use Rattle.tablefile.proofs.ReadWritten.{read_written}

every : StateSet
every = record { member = replicate most_states true }

one : OutputCode
one = record { 0 = 1 }

-- a loop that reads nothing and writes as many codes as a transition can
loop : Transition
loop = record { from = 0; to = 0; input = record { 0 = 0 }; count = most_outputs; output = replicate most_outputs one }

full : Transducer
full = transducer_of most_states every every (replicate most_transitions loop)

-- ---- it keeps the rules

in_every : (q : ℕ) → q < most_states → In every q
unfolding has every
in_every q h = rw (lt-ltb q most_states h, get_or-replicate most_states q true false h)

every_below : (q : ℕ) → In every q → q < most_states
unfolding has
every_below q e = ltb-true q most_states (and_left (ltb q most_states) (get_or every.member q false) e)

loop_used : Used most_states loop
unfolding loop one
loop_used =
    record {
      from_state = omega arith;
      to_state = omega arith;
      input_code = omega arith;
      few_outputs = omega arith;
      least_code = λ j h. rw (code j h) (omega arith);
      largest_code = λ j h. rw (code j h) (omega arith);
      beyond_zero = λ j h k. absurd (omega arith);
    }
  where
    code : (j : ℕ) → j < most_outputs → output_at loop j ≡ one
    code j h = get_or-replicate most_outputs j one no_code h

each_loop : (l : ℕ) → l < most_transitions → at full l ≡ loop
unfolding full
each_loop l h =
    made_at most_states every every (replicate most_transitions loop) l (omega (arith, length-replicate most_transitions loop))
    ∙ get_or-replicate most_transitions l loop outside h

-- nothing else stands there
only_one : (n : ℕ) {v w : Transition} → Among v (replicate n w) → v ≡ w
only_one zero m = absurd (Memᴰ.not-nil m)
only_one (suc n) m = ⊎_elim (λ e. e) (λ k. only_one n k) (Memᴰ.cases_cons m)

full_accepted : accepted_of full ≡ true
unfolding full
full_accepted =
    (made_accepted most_states every every (replicate most_transitions loop)).1
    (record {
      some_state = omega arith;
      few_states = omega arith;
      start_state = every_below;
      final_state = every_below;
      few_lines = omega (arith, length-replicate most_transitions loop);
      used = λ v m. rw (only_one most_transitions m) loop_used;
    })

full_shaped : Shaped full
unfolding full every loop
full_shaped =
    made_shaped most_states every every (replicate most_transitions loop) (length-replicate most_states true) (length-replicate most_states true)
    (omega (arith, length-replicate most_transitions loop)) (λ v m. rw (only_one most_transitions m) (length-replicate most_outputs one))

-- ---- its length

states_below_lem : (q : ℕ) → q ≤ most_states → length (states_below q every) ≡ q
unfolding states_below
states_below_lem zero h = refl
states_below_lem (suc q) h = omega (arith, rw (add-one q) at (size_in every q (in_every q h)), states_below_lem q (omega arith))

size_every : size_of every ≡ most_states
unfolding size_of
size_every = states_below_lem most_states (omega arith)

outputs_full : (n : ℕ) → n ≤ most_transitions → outputs_below full n ≡ most_outputs * n
unfolding outputs_below loop
outputs_full zero h = refl
outputs_full (suc n) h = omega (arith, outputs_full n (omega arith), ap (λ (v : Transition). v.count) (each_loop n h))

full_size : length (write_of full) ≡ most_bytes
unfolding full transducer_of
full_size = omega (arith, written_length full, size_every, outputs_full most_transitions (omega arith))

pub longest_taken : LongestTaken
longest_taken =
    record {
      file = write_of full;
      taken = ap number_of (read_written full full_accepted full_shaped);
      size = full_size;
    }
