-- The transducer of pairs is accepted, and its arrays have their lengths. Assumes nothing.
use mathlib.Core.Path.{◌≡◌, refl}
use mathlib.Core.Bool.{Bool, true}
use Prim.Native.Nat.{ℕ, ◌≤◌, ◌<◌}
use native.Mathlib.Omega.{arith}
use lib.ListN.{length, length-replicate}
use Rattle.transducer.specs.Limits.{most_states, most_transitions, most_outputs}
use Rattle.transducer.specs.Blank.{clear_transition}
use Rattle.transducer.specs.Valid.{Used, Valid, Shaped, all_below, used_of, codes_of, code_of}
use Rattle.transducer.specs.Accepted.{accepted_of}
use Rattle.transducer.specs.declared.OutputCode.{OutputCode}
use Rattle.transducer.specs.declared.Transition.{Transition}
use Rattle.transducer.specs.declared.Transducer.{Transducer}
use Rattle.transducer.proofs.Facts.{used_facts}
use Rattle.transducer.proofs.LineLaws.{made_shaped}
use Rattle.transducer.proofs.AcceptedLaws.{accepted_valid, made_accepted}
use Rattle.product.specs.Numbers.{most_pairs, first_of, second_of}
use Rattle.joints.specs.Joint.{after}
use Rattle.joints.proofs.JointLaws.{Side, rests, takes, side_below, joint_sides}
use Rattle.series.specs.Result.{pairs, both_in_of, taken, entered, lines, pair_transducer}
use Rattle.series.proofs.StateLaws.{state_less}
use Rattle.series.proofs.ResultLaws.{StepOf, line_step, set_below, set_long}

-- what a side takes keeps the rules, among some states
record Kept (v : Transition) : Type 0 where
  n : ℕ
  used : Used n v

side_kept : {t : Transducer} {p p' a : ℕ} → Valid t → Side t p p' a → Kept (taken t a)
unfolding used_of codes_of code_of all_below
side_kept v (rests e) = record { n = 1; used = used_facts 1 clear_transition refl refl }
side_kept v (takes {l = l} k) = record { n = _; used = v.used l k.used }

-- so does a line that reads what the one reads and writes what the other writes
both_used : {n m k : ℕ} {v w : Transition} (from to : ℕ) → from < n → to < n → Used m v → Used k w
    → Used n (record { from = from; to = to; input = v.input; count = w.count; output = w.output })
both_used from to f t u u' =
    record {
      from_state = f;
      to_state = t;
      input_code = u.input_code;
      few_outputs = u'.few_outputs;
      least_code = u'.least_code;
      largest_code = u'.largest_code;
      beyond_zero = u'.beyond_zero;
    }

-- and what a side takes has an array of the right length
side_long : {t : Transducer} {p p' a : ℕ} → Valid t → Shaped t → Side t p p' a → length (taken t a).output ≡ most_outputs
side_long v s (rests e) = length-replicate {A = OutputCode} most_outputs (record { 0 = 0 })
side_long v s (takes {l = l} k) = s.outputs l (omega (arith, k.used, v.few_transitions))

module _ (first second : Transducer) (joined : ℕ → Bool) (few : length (pairs joined) ≤ most_states)
    (few_lines : length (lines first second joined) ≤ most_transitions) (valid' : Valid second) where
  -- where there is a joined pair
  pub pairs_accepted : Valid first → 1 ≤ length (pairs joined) → accepted_of (pair_transducer first second joined) ≡ true
  unfolding pair_transducer
  pairs_accepted valid some =
      (made_accepted (length (pairs joined)) (both_in_of joined first.starts second.starts) (both_in_of joined first.finals second.finals)
      (lines first second joined)).1
      (record {
        some_state = some;
        few_states = few;
        start_state = set_below joined first.starts second.starts;
        final_state = set_below joined first.finals second.finals;
        few_lines = few_lines;
        used = λ w m. used (line_step first second joined m);
      })
    where
      used : {w : Transition} → StepOf first second joined w → Used (length (pairs joined)) w
      used s =
          let sides = joint_sides s.steps.joint in
          let low = s.low in
          let p-low : after first (first_of s.v) s.a < most_states = side_below valid valid.few_states sides.0 (omega arith) in
          let q-low : after second (second_of s.v) s.b < most_states = side_below valid' valid'.few_states sides.1 (omega arith) in
          rw s.is
          (both_used _ _ (state_less joined s.v most_pairs s.steps.from_joined low)
          (state_less joined (entered first second s.v s.a s.b) most_pairs s.steps.to_joined (omega arith))
          (side_kept valid sides.0).used (side_kept valid' sides.1).used)

  pub pairs_valid : Valid first → 1 ≤ length (pairs joined) → Valid (pair_transducer first second joined)
  pairs_valid valid some = accepted_valid _ (pairs_accepted valid some)

  -- the arrays have their lengths
  pub pairs_shaped : Shaped second → Shaped (pair_transducer first second joined)
  unfolding pair_transducer
  pairs_shaped shaped =
      made_shaped _ _ _ (lines first second joined) (set_long joined first.starts second.starts few)
      (set_long joined first.finals second.finals few) few_lines
      (λ w m. let s = line_step first second joined m in
      rw s.is (side_long valid' shaped (joint_sides s.steps.joint).1))
