-- `read_record` meets its contract: a turn of the loop takes one range from those that are left, and where none is left what was read is the record.
-- Assumes nothing.
use mathlib.Core.Path.{◌≡◌, sym, ap, ◌∙◌}
use mathlib.Core.List.{List}
use Prim.Native.Nat.{ℕ, ◌+◌, ◌*◌, ◌≤◌}
use native.Mathlib.Omega.{arith}
use lib.ListN.{length, get_or}
use Rattle.std.specs.Prelude.{Option}
use Rattle.std.specs.Option.{option_or}
use Rattle.transducer.specs.declared.refusals.Refusal.{Refusal}
use Rattle.records.specs.Byte.{byte_fault_of}
use Rattle.records.specs.Field.{columns, field_of}
use Rattle.records.specs.Letters.{record_end, record_size}
use Rattle.records.specs.Reading.{in_range, number_at, fields_fault, values_at, in_array, record_fault, record_at}
use Rattle.records.specs.declared.reader.RecordReader.{RecordReader}
use Rattle.records.specs.declared.reading.Range.{Range}
use Rattle.records.specs.declared.reading.Record.{Record}
use Rattle.records.proofs.RangeLaws.{fault_turn, values_turn, fault_done, values_done}
use Rattle.records.proofs.reading.read_record.Goals as goal

-- a range for no field
abbrev none : Range
none = record { low = 0; high = 0; least = 0 }

-- what was read behind the loop is the record
record_made : (text : List ℕ) (start letter at : ℕ) (fault : Option Refusal) (ranges : List Range) (values : List ℕ)
    → fault ≡ option_or (byte_fault_of text start letter) (fields_fault text (start + 1) ranges) → at ≡ start + 1 + columns * length ranges
    → values ≡ in_array (values_at text (start + 1) ranges)
    → ◌≡◌ {A = Record} (record { fault = option_or fault (byte_fault_of text at record_end); next = at + 1; values = values })
    (record_at text start letter ranges)
unfolding record_at record_fault
record_made text start letter at fault ranges values f a v =
    let next : start + 1 + columns * length ranges + 1 ≡ start + record_size (length ranges) = omega arith in
    rw (f, a, v, next)

pub loop-i-preserved : goal.loop-i-preserved
unfolding number_at
loop-i-preserved c =
    let i = c.loop-i.invariant in
    let inside = c.loop-i-test.true in
    let next : c.field.new.self.at ≡ c.loop-i.reader.at + columns = ap (λ (r : RecordReader). r.at) c.field.ensures.moved in
    let text : c.field.new.self.text.now ≡ c.args.text.now = ap (λ (r : RecordReader). r.text.now) c.field.ensures.moved ∙ i.text in
    let field : c.field.result ≡ field_of c.args.text.now c.loop-i.reader.at = rw i.text at c.field.ensures.field in
    let read : c.in_range-number.result ≡ in_range (field_of c.args.text.now c.loop-i.reader.at) (get_or c.args.ranges.now c.loop-i.i none) =
    rw field at c.in_range-number.ensures
    in
    record {
      fault = rw next (fault_turn _ _ _ _ none _ inside read _ _ c.or-fault.ensures) ∙ i.fault;
      values = rw next (values_turn _ _ _ _ none _ inside read _) ∙ i.values;
      text = text;
      place = rw next (omega arith);
    }

pub returns : goal.returns
returns c =
    let i = c.loop-i.invariant in
    let a = c.args in
    let ranges = a.ranges.now in
    let at = c.loop-i.reader.at in
    let all : length ranges ≤ c.loop-i.i = omega arith in
    let next : c.byte.new.self.at ≡ at + 1 = ap (λ (r : RecordReader). r.at) c.byte.ensures.moved in
    let end = rw i.text at c.byte.ensures.fault in
    simp (c.or.ensures, end, next)
    (record_made a.text.now a.start a.letter at c.loop-i.fault ranges c.loop-i.values
    (sym (fault_done a.text.now ranges at c.loop-i.i all c.loop-i.fault) ∙ i.fault) (omega arith)
    (sym (values_done a.text.now ranges at c.loop-i.i all c.loop-i.values) ∙ i.values))
