-- `measure` meets its contract. Assumes nothing.
use Rattle.std.proofs.Common.{arith, ap, length, ◌<◌}
use Rattle.std.proofs.lemmas.List.Elements.{All-rest}
use Rattle.wordsearch.specs.Answers.{written}
use Rattle.wordsearch.proofs.TraceLaws.{written_size}
use Rattle.translator.proofs.measure.Goals as goal

pub loop-l-preserved : goal.loop-l-preserved
loop-l-preserved g c =
    let i = c.loop-l.invariant in
    let e = c.in-Some.ensures.steps in
    let size = written_size c.args.t c.in-Some.l c.next.new.self in
    record {
      used = All-rest (λ k. k < c.args.t.count) c.in-Some.l c.next.new.self c.loop-l.l-iterator e i.used;
      size = omega (arith, size, ap (λ way. length (written c.args.t way)) e);
    }
