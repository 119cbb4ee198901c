-- `output_bytes` meets its contract: each place holds the code's number. Assumes nothing.
use Rattle.std.proofs.Common.{arith, rules}
use Rattle.transducer.specs.Transition.{output_at}
use Rattle.pathwords.proofs.WritingLaws.{numbers_firsts}
use Rattle.pathwords.proofs.output_bytes.Goals as goal

pub returns : goal.returns
returns c =
    let items = c.map.ensures.items in
    numbers_firsts c.args.v.count c.map.result (output_at c.args.v) (omega (arith, items.long)) (λ j h. let e = items.at j (record { 0 = 0 }) 0 (omega arith) in search rules)
