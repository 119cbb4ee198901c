-- `put_field` meets its contract: each store puts one byte before the columns in front of it. Assumes nothing.
use mathlib.Core.Path.{◌≡◌, refl, sym, ap, ◌∙◌}
use mathlib.Core.List.{List, [], ◌∷◌, ◌++◌}
use Prim.Native.Nat.{ℕ, zero, suc, ◌+◌, ◌-◌, ◌/◌, ◌≤◌, ◌<◌}
use native.Mathlib.Nat.{not-suc-le-zero}
use native.Mathlib.Numerals.{sub-one}
use native.Mathlib.Omega.{arith}
use lib.ListN.{length, set, length-set}
use Rattle.records.specs.Number.{digit_of, leading_of, leadings_of, columns_of}
use Rattle.records.proofs.Columns.{length_leadings, length_columns}
use Rattle.buffers.specs.Put.{put}
use Rattle.buffers.proofs.PutLaws.{put_none, put_before}
use Rattle.records.proofs.number.put_field.Goals as goal

module _ (out : List ℕ) (at : ℕ) where
  -- a byte is stored before the columns in front of it
  store : (n v b : ℕ) → at + n < length out → put (set out (at + n) b) at (leadings_of n v) ≡ put out at (leadings_of n v ++ (b ∷ []))
  store n v b h = put_before out at (leadings_of n v) (at + n) b (ap (λ (k : ℕ). at + k) (sym (length_leadings n v))) h

  store_last : (k v : ℕ) → 1 ≤ k → at + k ≤ length out
      → put (set out (at + (k - 1)) (digit_of v)) at (leadings_of (k - 1) (v / 10)) ≡ put out at (columns_of k v)
  unfolding columns_of
  store_last zero v some h = absurd (not-suc-le-zero some)
  store_last (suc n) v some h = rw sub-one (store n (v / 10) (digit_of v) (omega arith))

  store_leading : (k v b : ℕ) → 1 ≤ k → at + k ≤ length out → b ≡ leading_of v
      → put (set out (at + (k - 1)) b) at (leadings_of (k - 1) (v / 10)) ≡ put out at (leadings_of k v)
  unfolding leadings_of
  store_leading zero v b some h e = absurd (not-suc-le-zero some)
  store_leading (suc n) v b some h e = rw (sub-one, ← e) (store n (v / 10) b (omega arith))

  stored : (k v : ℕ) → k ≤ 0 → put out at (leadings_of k v) ≡ out
  unfolding leadings_of
  stored zero v h = put_none out at
  stored (suc n) v h = absurd (not-suc-le-zero h)

pub loop-left-init : goal.loop-left-init
loop-left-init c =
    record {
      puts = refl;
      same_length = refl;
      room = simp length-set (omega (arith, length_columns c.args.width c.args.v));
    }

pub loop-left-preserved : goal.loop-left-preserved
loop-left-preserved c =
    let i = c.loop-left.invariant in
    record {
      puts = store_leading _ _ _ _ _ c.loop-left-test.true (omega arith) c.leading.ensures ∙ i.puts;
      same_length = omega (arith, length-set {A = ℕ});
      room = omega (arith, length-set {A = ℕ});
    }

pub returns : goal.returns
returns c =
    let width = c.args.width in
    let v = c.args.v in
    record {
      buffer =
          sym (stored _ _ _ _ c.loop-left-test.false) ∙ c.loop-left.invariant.puts
          ∙ store_last _ _ _ _ c.requires.le_width (omega (arith, length_columns width v));
      place = ap (λ (n : ℕ). c.args.at + n) (sym (length_columns width v));
    }
