-- `target` meets its contract. Assumes nothing.
use Rattle.std.proofs.Common.{sym}
use Rattle.product.proofs.TargetLaws.{target_sides}
use Rattle.product.proofs.steps.Product.target.Goals as goal

pub returns : goal.returns
returns c = rw (c.from.ensures, c.from-2.ensures, c.side-p.ensures, c.side-q.ensures) (sym (target_sides _ _ _ _ _ c.requires.step_le_no_transition))
