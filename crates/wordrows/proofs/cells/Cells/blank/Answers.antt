use Rattle.wordrows.proofs.StartLaws.{fresh_blank}
use Rattle.wordrows.proofs.cells.Cells.blank.Goals as goal

pub returns : goal.returns
returns c = fresh_blank
