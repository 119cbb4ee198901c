use Rattle.std.proofs.Common.{◌≡◌, refl, Err, rules, append_assoc, arith}
use Rattle.product.specs.Numbers.{no_transition}
use Rattle.joints.specs.Found.{among}
use Rattle.series.specs.Result.{gather}
use Rattle.series.specs.Parts.{row_of, rows_of}
use Rattle.series.proofs.ListLaws.{all_added, too_many, over, then_over, added_none, gather_add, gather_skip, gather_over}
use Rattle.series.proofs.TestLaws.{row_within, no_row}
use Rattle.series.proofs.listing.rows.Goals as goal

pub returns-in_err-row : goal.returns-in_err-row
unfolding rows_of
returns-in_err-row c =
    let a = c.args in
    let j = among a.series.now.pairs.now in
    let same : c.from_residual.result ≡ Err c.in_err-row.field-0.0 = search rules in
    let m = too_many c.row.ensures c.in_err-row.was in
    rw same (over (row_of a.series.now.product.left.now a.series.now.product.right.now j a.v no_transition) (gather no_transition (row_of a.series.now.product.left.now a.series.now.product.right.now j a.v)) m.0 m.1)

pub loop-l-init : goal.loop-l-init
loop-l-init c =
    let f = c.first_row-l.ensures in
    let p = c.requires in
    let a = c.args in
    let rows = row_of a.series.now.product.left.now a.series.now.product.right.now (among a.series.now.pairs.now) a.v in
    let within = row_within f (omega arith) in
    record {
      in_range = within;
      along = f.has (omega arith);
      added = gather_skip rows 0 _ (added_none rows) _ f.above
          (λ k low high. no_row a.series.now.product.on_left a.series.now.product.on_right (among a.series.now.pairs.now) a.v k (omega arith) (f.none k low high));
    }

pub returns-in_err-row-2 : goal.returns-in_err-row-2
unfolding rows_of
returns-in_err-row-2 c =
    let a = c.args in
    let j = among a.series.now.pairs.now in
    let rows = row_of a.series.now.product.left.now a.series.now.product.right.now j a.v in
    let same : c.from_residual-in_err-row-2.result ≡ Err c.in_err-row-2.field-0.0 = search rules in
    rw same
    (then_over (rows no_transition) (gather no_transition rows) (all_added c.row.ensures c.in_ok-row.was)
    (gather_over rows c.loop-l.l _ c.loop-l.invariant.added c.row-in-loop-l.ensures c.in_err-row-2.was refl no_transition c.loop-l-test.true))

pub loop-l-preserved : goal.loop-l-preserved
loop-l-preserved c =
    let f = c.row_after-l.ensures in
    let p = c.requires in
    let a = c.args in
    let rows = row_of a.series.now.product.left.now a.series.now.product.right.now (among a.series.now.pairs.now) a.v in
    let within = row_within f (omega arith) in
    record {
      in_range = within;
      along = f.has (omega arith);
      added = gather_skip rows _ _ (gather_add rows c.loop-l.l _ c.loop-l.invariant.added c.row-in-loop-l.ensures c.in_ok-row-2.was) _ f.above
          (λ k low high. no_row a.series.now.product.on_left a.series.now.product.on_right (among a.series.now.pairs.now) a.v k (omega arith) (f.none k low high));
    }

pub returns : goal.returns
unfolding rows_of
returns c =
    let e : c.loop-l.l ≡ no_transition = omega (arith, c.loop-l.invariant.in_range) in
    let first = all_added c.row.ensures c.in_ok-row.was in
    record { added = rw (e, first, append_assoc) at c.loop-l.invariant.added; many = tt; refusal = tt }
