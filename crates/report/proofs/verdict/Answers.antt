-- The buffers keep their lengths, so that what a judgement counts is within them and can be listed, and there is room for the listing.
use native.Mathlib.Nat.{sub-zero}
use native.Mathlib.Omega.{arith}
use Rattle.std.proofs.Common.{rules}
use Rattle.witness.specs.Showing.{contents_of}
use Rattle.report.specs.Report.{lent}
use Rattle.report.proofs.ReportLaws.{Sized, lent_sized, judged_few, split_few, refused_report, single_report, split_report}
use Rattle.report.proofs.verdict.Goals as goal

pub returns-in-Err : goal.returns-in-Err
unfolding lent
returns-in-Err c = refused_report (simp sub-zero at c.judge.ensures.judged) (omega arith) c.in-Err.is c.list_refused.ensures

pub returns-in_default : goal.returns-in_default
unfolding lent
returns-in_default c =
    let kept : Sized (contents_of c.judge.new.lent) =
    record { word = search rules; path_a = search rules; path_b = search rules; output_x = search rules; output_y = search rules }
    in
    single_report (simp sub-zero at c.judge.ensures.judged) (omega arith) c.in-Ok.is c.in_default.is kept c.list_verdict.ensures

pub slice_bounds-shown-end : goal.slice_bounds-shown-end
unfolding lent
slice_bounds-shown-end c =
    let kept : Sized (contents_of c.judge.new.lent) =
    record { word = search rules; path_a = search rules; path_b = search rules; output_x = search rules; output_y = search rules }
    in
    omega (arith, (split_few c.in-Ok.is c.in-Some.is (judged_few c.judge.ensures.judged lent_sized kept)).word)

pub slice_bounds-shown-end-2 : goal.slice_bounds-shown-end-2
unfolding lent
slice_bounds-shown-end-2 c =
    let kept : Sized (contents_of c.judge.new.lent) =
    record { word = search rules; path_a = search rules; path_b = search rules; output_x = search rules; output_y = search rules }
    in
    omega (arith, (split_few c.in-Ok.is c.in-Some.is (judged_few c.judge.ensures.judged lent_sized kept)).path_a)

pub slice_bounds-shown-end-3 : goal.slice_bounds-shown-end-3
unfolding lent
slice_bounds-shown-end-3 c =
    let kept : Sized (contents_of c.judge.new.lent) =
    record { word = search rules; path_a = search rules; path_b = search rules; output_x = search rules; output_y = search rules }
    in
    omega (arith, (split_few c.in-Ok.is c.in-Some.is (judged_few c.judge.ensures.judged lent_sized kept)).path_b)

pub slice_bounds-shown-end-4 : goal.slice_bounds-shown-end-4
unfolding lent
slice_bounds-shown-end-4 c =
    let kept : Sized (contents_of c.judge.new.lent) =
    record { word = search rules; path_a = search rules; path_b = search rules; output_x = search rules; output_y = search rules }
    in
    omega (arith, (split_few c.in-Ok.is c.in-Some.is (judged_few c.judge.ensures.judged lent_sized kept)).output_x)

pub slice_bounds-shown-end-5 : goal.slice_bounds-shown-end-5
unfolding lent
slice_bounds-shown-end-5 c =
    let kept : Sized (contents_of c.judge.new.lent) =
    record { word = search rules; path_a = search rules; path_b = search rules; output_x = search rules; output_y = search rules }
    in
    omega (arith, (split_few c.in-Ok.is c.in-Some.is (judged_few c.judge.ensures.judged lent_sized kept)).output_y)

pub returns : goal.returns
unfolding lent
returns c =
    let kept : Sized (contents_of c.judge.new.lent) =
    record { word = search rules; path_a = search rules; path_b = search rules; output_x = search rules; output_y = search rules }
    in
    split_report (simp sub-zero at c.judge.ensures.judged) (omega arith) c.in-Ok.is c.in-Some.is kept
    (search rules) (search rules) (search rules) (search rules) (search rules) (simp sub-zero at c.list_verdict-2.ensures)
