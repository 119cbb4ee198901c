use Rattle.std.proofs.Common.{◌≡◌, ◌≤◌, ◌<◌, length}
use Rattle.std.specs.Prelude.{All}
use Rattle.buffers.specs.Put.{put}
use Rattle.transducer.specs.Transition.{bytes_of}
use Rattle.wordsearch.specs.Answers.{written}
use Rattle.translator.proofs.write.Given as goal

-- once what is left of the word is put at the front, the whole word is
abbrev pub invariant-loop-l : goal.invariant-loop-l
invariant-loop-l g l = record {
  used : All (λ k. k < l.t.count) l.l-iterator;
  to : l.to ≡ length (written l.t l.l-iterator);
  fits : l.to ≤ length l.initial.out;
  length : length l.out ≡ length l.initial.out;
  whole : put l.out 0 (bytes_of (written l.t l.l-iterator)) ≡ put l.initial.out 0 (bytes_of (written l.t l.fn.way));
}
