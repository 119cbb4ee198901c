-- `same` meets its contract: the two entries agree at all places. Assumes nothing.
use Rattle.outputs.proofs.PutLaws.{chunks_exactly}
use Rattle.outputs.proofs.Outputs.same.Goals as goal

pub returns : goal.returns
returns c =
    let low = c.requires in
    rw (← c.self.view_is)
    (chunks_exactly c.self.invariant c.args.l c.args.m low.0 low.1 c.first_chunk-first.result c.first_chunk-second.result c.first_chunk-first.ensures.cases c.first_chunk-second.ensures.cases c.eq.ensures)
