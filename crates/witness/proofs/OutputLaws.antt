-- A side of a walk that stands at the front of a buffer, as a path: what it writes, and what it reads. Assumes nothing.
use mathlib.Core.Path.{◌≡◌, sym, ◌∙◌}
use mathlib.Core.Bool.{Bool}
use mathlib.Core.List.{List}
use Prim.Native.Nat.{ℕ, ◌≤◌}
use native.Mathlib.Omega.{arith}
use lib.ListN.{length, take}
use Rattle.transducer.specs.Paths.{reads, writes, Accepting, output_of}
use Rattle.transducer.specs.Transition.{bytes_of}
use Rattle.transducer.specs.declared.Transducer.{Transducer}
use Rattle.transducer.proofs.PathLaws.{output_to_lem}
use Rattle.transducer.proofs.SizeLaws.{length_bytes}
use Rattle.buffers.specs.Put.{put}
use Rattle.pathwords.specs.Words.{input_bytes_of, Numbers}
use Rattle.pathwords.proofs.WordLaws.{length_writes, length_codes}
use Rattle.witness.specs.Walk.{walk_of, side_of}
use Rattle.witness.specs.Sides.{most_steps, most_shown, codes_in, Candidate, Front}
use Rattle.witness.proofs.SideLaws.{length_side}
use Rattle.witness.proofs.WholeLaws.{whole_numbers}
use Rattle.witness.proofs.Fronts.{front_is}
use Rattle.witness.proofs.ShowingLaws.{length_word}

module _ {t : Transducer} {labels : List ℕ} (p : Candidate t labels) (right : Bool) {path path' : List ℕ} {n : ℕ}
    (f : Front (length labels) (side_of right (walk_of labels)) path path' n)
  where
    -- it has the numbers of transitions in use
    pub path_numbers : Numbers t (take n path')
    path_numbers = rw (front_is f) (whole_numbers p.whole right)

    -- it writes at most 8 codes a step
    few_codes : length (writes t (take n path')) ≤ codes_in (length labels)
    few_codes =
        rw (front_is f)
        (omega (arith, length_writes p.valid (side_of right (walk_of labels)) (whole_numbers p.whole right), length_side right labels))

    pub few_written : length (writes t (take n path')) ≤ most_shown
    few_written = omega (arith, few_codes, p.short)

    -- it reads at most one a step
    few_codes_read : length (reads t (take n path')) ≤ length labels
    few_codes_read = rw (front_is f) (length_word t labels right)

    pub few_read : length (reads t (take n path')) ≤ most_steps
    few_read = omega (arith, few_codes_read, p.short)

    -- what it writes, put at the front of a buffer, is its output
    pub output_front : {out out' : List ℕ} {m : ℕ} → m ≡ length (writes t (take n path')) → out' ≡ put out 0 (bytes_of (writes t (take n path')))
        → (a : Accepting t (side_of right (walk_of labels))) → Front (codes_in (length labels)) (bytes_of (output_of t a)) out out' m
    output_front e d a =
        let short = few_codes in
        rw (output_to_lem t (side_of right (walk_of labels)) a.last)
        (rw (front_is f) at (outputs e d (omega (arith, short))))
      where
        outputs : {out out' : List ℕ} {m : ℕ} → m ≡ length (writes t (take n path')) → out' ≡ put out 0 (bytes_of (writes t (take n path')))
            → m ≤ codes_in (length labels) → Front (codes_in (length labels)) (bytes_of (writes t (take n path'))) out out' m
        outputs e d h = record { count = e ∙ sym (length_bytes (writes t (take n path'))); stores = d; short = h }

    -- what it reads is the word that the side reads
    pub word_front : {word word' : List ℕ} {k : ℕ} → k ≡ length (reads t (take n path')) → word' ≡ put word 0 (input_bytes_of (reads t (take n path')))
        → Front (length labels) (input_bytes_of (reads t (side_of right (walk_of labels)))) word word' k
    word_front e d =
        let short = few_codes_read in
        rw (front_is f) at (words e d (omega (arith, short)))
      where
        words : {word word' : List ℕ} {k : ℕ} → k ≡ length (reads t (take n path')) → word' ≡ put word 0 (input_bytes_of (reads t (take n path')))
            → k ≤ length labels → Front (length labels) (input_bytes_of (reads t (take n path'))) word word' k
        words e d h = record { count = e ∙ sym (length_codes _); stores = d; short = h }
