-- `differs` meets its contract: the path that `output_is` is given is the right side, and the word is the left side's output. Assumes nothing.
use Rattle.std.proofs.Common.{◌≡◌, ◌↔◌, List, ℕ, refl, sym, ap, arith}
use mathlib.Core.Bool.{Bool, true, false, not, true≢false, false≢true}
use lib.Seq.{length-take-le}
use Rattle.transducer.specs.Transition.{bytes_of}
use Rattle.transducer.specs.Paths.{writes, output_to}
use Rattle.transducer.specs.Walks.{Step, left_of, right_from}
use Rattle.transducer.specs.declared.Transducer.{Transducer}
use Rattle.transducer.proofs.PathLaws.{output_to_lem}
use Rattle.witness.specs.Walk.{accepting}
use Rattle.witness.specs.Sides.{Differs}
use Rattle.witness.proofs.WholeLaws.{candidate_labels, same_exactly}
use Rattle.witness.proofs.Fronts.{front_is, same_bytes}
use Rattle.witness.proofs.OutputLaws.{path_numbers, few_written, output_front}
use Rattle.witness.proofs.differs.Goals as goal

-- b says that the two sides write the same numbers: then they have the same output, else they have not
not_same : {t : Transducer} {w : List Step} (b : Bool) → (b ≡ true) ↔ (bytes_of (writes t (right_from w)) ≡ bytes_of (writes t (left_of w)))
    → Differs t w (not b)
not_same true h = record { same = λ _ k. (same_exactly k).1 (sym (same_bytes _ _ (h.0 refl))); different = λ e. absurd (false≢true e) }
not_same false h =
    record { same = λ e. absurd (true≢false e); different = λ _ k s. false≢true (h.1 (ap bytes_of (sym ((same_exactly k).0 s)))) }

-- so it is where the one list is the right side and the other the left side's output
sides_differ : {t : Transducer} {w : List Step} {path word : List ℕ} (b : Bool) (last : ℕ) → path ≡ right_from w
    → word ≡ bytes_of (output_to t (left_of w) last) → (b ≡ true) ↔ (bytes_of (writes t path) ≡ word) → Differs t w (not b)
sides_differ {t} {w} b last right left h = not_same b (rw (right, left, output_to_lem t (left_of w) last) at h)

pub write_side-l-requires-clause-labels : goal.write_side-l-requires-clause-labels
write_side-l-requires-clause-labels c = candidate_labels c.requires

pub output-m-requires-clause-numbers : goal.output-m-requires-clause-numbers
output-m-requires-clause-numbers c = path_numbers c.requires false c.write_side-l.ensures

pub output-m-requires-clause-path_in_bounds : goal.output-m-requires-clause-path_in_bounds
output-m-requires-clause-path_in_bounds c = few_written c.requires false c.write_side-l.ensures

pub write_side-r-requires-clause-labels : goal.write_side-r-requires-clause-labels
write_side-r-requires-clause-labels c = candidate_labels c.requires

pub slice_bounds-word-end : goal.slice_bounds-word-end
slice_bounds-word-end c = omega (arith, few_written c.requires false c.write_side-l.ensures, c.output-m.ensures.value)

pub slice_bounds-output_is-end-2 : goal.slice_bounds-output_is-end-2
slice_bounds-output_is-end-2 c = sym (length-take-le _ _ (omega (arith, few_written c.requires false c.write_side-l.ensures, c.output-m.ensures.value)))

pub output_is-requires-clause-numbers : goal.output_is-requires-clause-numbers
output_is-requires-clause-numbers c = path_numbers c.requires true c.write_side-r.ensures

pub returns : goal.returns
returns c =
    let one = accepting c.args.t c.requires.whole false in
    let out = output_front c.requires false c.write_side-l.ensures c.output-m.ensures.value c.output-m.ensures.out_after one in
    sides_differ c.output_is.result one.last (front_is c.write_side-r.ensures) (front_is out) c.output_is.ensures
