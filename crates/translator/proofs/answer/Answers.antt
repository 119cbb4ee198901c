-- `answer` meets its contract: what the search answers is measured and written. Assumes nothing.
use Rattle.std.proofs.Common.{arith, refl}
use Rattle.wordsearch.proofs.TraceLaws.{spelled_relates}
use Rattle.translator.specs.Translated.{Outcome}
use Rattle.translator.proofs.answer.Goals as goal

pub returns-then-out-size : goal.returns-then-out-size
returns-then-out-size g c =
    let found = rw c.in_ok-place.ensures.ok_part at c.find-found.ensures in
    let size = rw c.new.ensures at c.measure-size.ensures in
    record { outcome = Outcome.short (spelled_relates found) found.traced.few (omega (arith, size)) refl; unchanged = λ _. refl }

pub returns : goal.returns
returns g c =
    let found = rw c.in_ok-place.ensures.ok_part at c.find-found.ensures in
    let size = rw c.new.ensures at c.measure-size.ensures in
    record {
      outcome = Outcome.written (spelled_relates found) found.traced.few (omega (arith, size)) refl size (rw c.new-2.ensures at c.write.ensures);
      unchanged = λ z. absurd (z refl);
    }
