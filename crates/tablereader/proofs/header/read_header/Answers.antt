-- `read_header` meets its contract: it is the definition, with what the calls ensure. Assumes nothing.
use Rattle.tablereader.specs.Header.{header_of}
use Rattle.tablereader.proofs.HeaderRecord.{counted}
use Rattle.tablereader.proofs.header.read_header.Goals as goal

pub returns-clause-value : goal.returns-clause-value
unfolding header_of
returns-clause-value c = rw (c.read_record-read.ensures, c.new.ensures, c.new-2.ensures, c.new-3.ensures, c.new-4.ensures)

pub returns-clause-counted : goal.returns-clause-counted
unfolding header_of
returns-clause-counted c =
    counted c.args.text.now _ (rw (c.read_record-read.ensures, c.new.ensures, c.new-2.ensures, c.new-3.ensures, c.new-4.ensures))
