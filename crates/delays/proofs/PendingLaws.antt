-- The loops of `needs` and `whole`: a way out that is being written, one law for each event. Assumes nothing.
use mathlib.Core.Path.{◌≡◌, refl, sym, ap, ◌∙◌}
use mathlib.Core.Bool.{Bool}
use mathlib.Core.List.{List, ◌++◌, append_assoc, append-nil}
use Prim.Native.Nat.{ℕ, ◌+◌, ◌-◌, ◌≤◌, ◌<◌}
use native.Mathlib.Omega.{arith}
use lib.ListN.{length, take, get_or, length-append}
use lib.Seq.{take-take, take-append-add, take-append-le, length-take-le}
use Rattle.transducer.specs.Limits.{most_outputs}
use Rattle.witness.specs.Sides.{taken_of}
use Rattle.witness.proofs.SideLaws.{taken_small}
use Rattle.outputs.specs.Outputs.{codes_at, Appends}
use Rattle.delays.specs.WaysOut.{most_way, Links, Lists, Led, word_out, GapIs}
use Rattle.delays.specs.Needs.{lack_of, needs_of}
use Rattle.outputs.proofs.OutputLaws.{length_codes}
use Rattle.delays.proofs.WayOutLaws.{Onward, onward, word_ends, word_short}
use Rattle.delays.proofs.NeedLaws.{lack_low, needs_are}

-- ---- the loops of `needs` and `whole`

-- at the pair `node` on the way out of v: with what the rest of the way writes, all stands behind the first p places of the buffer
pub record Pending (written link label : List ℕ) (right : Bool) (v : ℕ) (before : List ℕ) (p : ℕ) (word : List ℕ) (to node : ℕ) : Type 0 where
  pub here : Led link label node
  pub long : length word ≡ length before
  pub within : to ≤ length word
  pub front : take to word ++ word_out written link label right node ≡ take p before ++ word_out written link label right v

module _ {written link label : List ℕ} {right : Bool} {v : ℕ} {before : List ℕ} {p : ℕ} where
  pub pending_none : Led link label v → p ≤ length before → Pending written link label right v before p before p v
  pending_none l h = record { here = l; long = refl; within = h; front = refl }

  module _ {word : List ℕ} {to node : ℕ} (s : Pending written link label right v before p word to node) (room : p ≤ length before) where
    -- how much is still to come
    pending_count : to + length (word_out written link label right node) ≡ p + length (word_out written link label right v)
    pending_count =
        omega (
          arith,
          ap length s.front,
          length-append (take to word) (word_out written link label right node),
          length-append (take p before) (word_out written link label right v),
          length-take-le to word s.within,
          length-take-le p before room,
        )

    module _ {gap : ℕ} (g : GapIs written link label v gap) where
      -- before the end a link leads on
      pub pending_onward : Links link label → to < p + lack_of right gap → Onward link label written node (get_or link node 0 - 1)
      pending_onward links h =
          onward links written s.here
          (λ z. omega (arith, pending_count, ap length (word_ends written s.here z right), lack_low right g))

      pub pending_done : p + lack_of right gap ≤ to
          → Appends before p (needs_of written link label right v) word (p + lack_of right gap)
      pending_done h =
          let w = word_out written link label right v in
          let n = lack_of right gap in
          let long : length (take p before) ≡ p = length-take-le p before room in
          let e = needs_are right g in
          rw e (record {
            place = omega (arith, length-take-le n w (lack_low right g));
            front =
                sym (take-take (p + n) to word h)
                ∙ sym (take-append-le (p + n) (take to word) (word_out written link label right node) (omega (arith, length-take-le to word s.within)))
                ∙ ap (take (p + n)) s.front
                ∙ ap (λ k. take (k + n) (take p before ++ w)) (sym long)
                ∙ take-append-add (take p before) w n;
          })

    -- room is left for what one side of a way writes
    pub pending_room : Lists written link label → Led link label v → to ≤ p + most_way
    pending_room lists first = omega (arith, pending_count, word_short lists right first)

    -- at the end of the way all of it stands there
    pub pending_whole : get_or link node 0 ≡ 0 → Appends before p (word_out written link label right v) word to
    pending_whole z =
        let e = word_ends written s.here z right in
        record {
          place = omega (arith, pending_count, ap length e);
          front = sym (append-nil (take to word)) ∙ ap (λ (w : List ℕ). take to word ++ w) (sym e) ∙ s.front;
        }

    pub pending_more : {next : ℕ} {after : List ℕ} {to' : ℕ} → Lists written link label → Onward link label written node next
        → to + most_outputs ≤ length word → length after ≡ length word
        → Appends word to (codes_at written (taken_of right (get_or label node 0))) after to'
        → Pending written link label right v before p after to' next
    pending_more {next} {after} {to'} lists o low long a =
        let l = taken_of right (get_or label node 0) in
        record {
          here = o.led_next;
          long = long ∙ s.long;
          within =
              omega (arith, long, a.place, length_codes written l, lists.outputs.few l (taken_small right (get_or label node 0) o.low_label));
          front =
              ap (λ (z : List ℕ). z ++ word_out written link label right next) a.front
              ∙ append_assoc (take to word) (codes_at written l) (word_out written link label right next)
              ∙ ap (λ (z : List ℕ). take to word ++ z) (sym (o.word right))
              ∙ s.front;
        }
