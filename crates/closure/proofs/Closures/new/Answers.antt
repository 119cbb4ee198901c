use Rattle.closure.proofs.PassLaws.{own_sound, closed_all}
use Rattle.closure.proofs.Closures.new.Goals as goal

pub passes-init : goal.passes-init
passes-init c = own_sound c.own-closures.ensures

pub returns : goal.returns
returns c = closed_all c.kept.ensures c.passes-test.false c.pass.ensures
