-- An output is no longer than the buffer that is lent for it, and there is room for its listing.
use native.Mathlib.Nat.{sub-zero}
use native.Mathlib.Omega.{arith}
use Rattle.report.specs.Report.{lent_output}
use Rattle.report.proofs.ReportLaws.{refusal_report, output_report}
use Rattle.report.proofs.translation.Goals as goal

pub returns-in-Err : goal.returns-in-Err
unfolding lent_output
returns-in-Err c = refusal_report (simp sub-zero at c.translate_file.ensures) (omega arith) c.in-Err.is c.list_refused.ensures

pub returns-in-Ok : goal.returns-in-Ok
unfolding lent_output
returns-in-Ok c =
    output_report (simp sub-zero at c.translate_file.ensures) (omega arith) c.in-Ok.is (rw sub-zero at c.list_translation.ensures)
