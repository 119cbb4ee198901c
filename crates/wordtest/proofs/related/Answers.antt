use Rattle.transducer.proofs.CodeLaws.{codes_exactly}
use Rattle.wordtest.proofs.PathLaws.{arrives_exactly}
use Rattle.wordtest.proofs.related.Goals as goal

pub returns : goal.returns
returns c =
    let input = c.args.input.now in
    let exactly =
    arrives_exactly c.requires.valid c.by_input-m.ensures c.of-written.ensures input c.args.output.now ((codes_exactly input).0 c.requires.input_value) in
    let r = rw c.new-rows.ensures at c.arrives.ensures in
    (λ e. exactly.0 (r.0 e), λ z. r.1 (exactly.1 z))
