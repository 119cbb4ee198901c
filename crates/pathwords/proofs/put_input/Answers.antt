-- `put_input` meets its contract: an input of 0 reads nothing, any other is the one code that is read. Assumes nothing.
use Rattle.buffers.proofs.PutsLaws.{puts_none}
use Rattle.pathwords.specs.Words.{input_bytes_of}
use Rattle.pathwords.proofs.WordLaws.{letter_code}
use Rattle.pathwords.proofs.put_input.Goals as goal

pub returns-then-code-eq0 : goal.returns-then-code-eq0
unfolding input_bytes_of
returns-then-code-eq0 c = rw c.if-code-eq0.true puts_none

pub put_byte-requires : goal.put_byte-requires
unfolding input_bytes_of
put_byte-requires c = rw (letter_code _ c.if-code-eq0.false) at c.requires

pub returns : goal.returns
unfolding input_bytes_of
returns c = rw (letter_code _ c.if-code-eq0.false) c.put_byte.ensures
