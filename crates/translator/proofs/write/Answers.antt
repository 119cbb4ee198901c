-- `write` meets its contract. Assumes nothing.
use Rattle.std.proofs.Common.{◌≡◌, ◌-◌, ◌<◌, length, arith, sym, ap, ◌∙◌}
use Rattle.std.proofs.lemmas.List.Elements.{All-rest}
use Rattle.buffers.specs.Put.{put}
use Rattle.buffers.proofs.PutLaws.{put_none}
use Rattle.transducer.specs.Transition.{at, written_by, bytes_of}
use Rattle.transducer.proofs.SizeLaws.{length_bytes, length_written}
use Rattle.wordsearch.specs.Answers.{written}
use Rattle.wordsearch.proofs.TraceLaws.{written_last, written_size}
use Rattle.translator.proofs.BufferLaws.{put_back}
use Rattle.translator.proofs.write.Goals as goal

pub overflow_sub-to : goal.overflow_sub-to
overflow_sub-to g c =
    let size = written_size c.args.t c.in-Some.l c.next.new.self in
    omega (arith, size, ap (λ way. length (written c.args.t way)) c.in-Some.ensures.steps)

pub put_output-requires-clause-room : goal.put_output-requires-clause-room
put_output-requires-clause-room g c =
    let i = c.loop-l.invariant in
    let size = written_size c.args.t c.in-Some.l c.next.new.self in
    let v = at c.args.t c.in-Some.l in
    let n : length (bytes_of (written_by v)) ≡ v.count = length_bytes (written_by v) ∙ length_written v in
    record { room = omega (arith, size, ap (λ way. length (written c.args.t way)) c.in-Some.ensures.steps) }

pub loop-l-preserved : goal.loop-l-preserved
loop-l-preserved g c =
    let i = c.loop-l.invariant in
    let a = c.args in
    let l = c.in-Some.l in
    let way = c.next.new.self in
    let v = at a.t l in
    let rest = written a.t way in
    let step = c.in-Some.ensures.steps in
    let size = written_size a.t l way in
    let longer = ap (λ way. length (written a.t way)) step in
    let to : c.loop-l.to - v.count ≡ length rest = omega (arith, size, longer) in
    let word = ap (λ way. written a.t way) step ∙ written_last a.t l way in
    record {
      used = All-rest (λ k. k < a.t.count) l way c.loop-l.l-iterator step i.used;
      to = to;
      fits = omega arith;
      length = c.put_output.auto.out ∙ i.length;
      whole =
          put_back c.loop-l.out c.put_output.new.out rest (written_by v) (omega (arith, size, longer)) (rw to at c.put_output.ensures.buffer)
          ∙ ap (λ y. put c.loop-l.out 0 (bytes_of y)) (sym word) ∙ i.whole;
    }

pub returns : goal.returns
returns g c =
    let i = c.loop-l.invariant in
    sym (put_none c.loop-l.out 0) ∙ ap (λ way. put c.loop-l.out 0 (bytes_of (written c.args.t way))) (sym c.in-None.ensures.steps.0) ∙ i.whole
