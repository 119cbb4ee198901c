-- `behind_output` meets its contract. Assumes nothing.
use Rattle.std.proofs.Common.{take}
use Rattle.std.proofs.lemmas.Slice.Eq.{strip_prefix_is}
use Rattle.std.proofs.lemmas.Bool.Decides.{Decides-eqb}
use Rattle.pathwords.proofs.behind_output.Goals as goal

pub returns : goal.returns
returns c =
    rw (← c.output_bytes-codes.ensures)
    (strip_prefix_is Decides-eqb c.args.word.now (take c.args.v.count c.output_bytes-codes.result) c.strip_prefix.result c.strip_prefix.ensures.cases)
