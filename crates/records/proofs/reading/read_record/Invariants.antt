-- What was read, and behind it what is left, are the first fault up to the last field, and the values of all fields. Assumes nothing.
use Rattle.std.proofs.Common.{◌≡◌, ◌+◌, ◌*◌, drop}
use Rattle.std.specs.Option.{option_or}
use lib.Seq.{sets}
use Rattle.records.specs.Byte.{byte_fault_of}
use Rattle.records.specs.Field.{columns}
use Rattle.records.specs.Reading.{fields_fault, values_at, in_array}
use Rattle.records.proofs.reading.read_record.Given as goal

abbrev pub invariant-loop-i : goal.invariant-loop-i
invariant-loop-i l = record {
  fault :
      option_or l.fault (fields_fault l.text l.reader.at (drop l.i l.ranges))
      ≡ option_or (byte_fault_of l.text l.start l.letter) (fields_fault l.text (l.start + 1) l.ranges);
  values : sets l.values l.i (values_at l.text l.reader.at (drop l.i l.ranges)) ≡ in_array (values_at l.text (l.start + 1) l.ranges);
  text : l.reader.text.now ≡ l.text;
  place : l.reader.at ≡ l.start + 1 + columns * l.i;
}
