-- `find` meets its contract: the machine is that of t, and however the search ends, that is the answer. Assumes nothing.
use Rattle.wordsearch.proofs.AnswerLaws.{answered}
use Rattle.wordsearch.proofs.find.Goals as goal

pub returns : goal.returns
returns g c = answered c.requires.valid c.by_input-m.ensures _ _ _ c.requires.room.most c.search.ensures
