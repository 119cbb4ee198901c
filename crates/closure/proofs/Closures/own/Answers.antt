use Rattle.closure.proofs.FlagLaws.{own_none}
use Rattle.closure.proofs.Closures.own.Goals as goal

pub loop-q-init : goal.loop-q-init
loop-q-init c = own_none
