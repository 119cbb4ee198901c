-- The numbers are those of the verdict, with and without a witness.
use Rattle.std.proofs.Common.{◌≡◌, refl, List, [], ◌∷◌, ℕ}
use Rattle.std.specs.Prelude.{Option, Some, None, is_some, Ok, unwrap_or}
use mir.Val.{bool_byte}
use Rattle.witness.specs.declared.Counts.{Counts}
use Rattle.functionality.specs.Decided.{no_counts, split_by, counts_in}
use Rattle.answers.specs.Answers.{numbers_of}
use Rattle.answers.proofs.numbers.Goals as goal

by_witness : (u : ℕ) (w : Option Counts) → let c = unwrap_or w no_counts in let k = counts_in w in
    ◌≡◌ {A = List ℕ}
    (bool_byte (is_some w) ∷ u ∷ c.word ∷ c.path_a ∷ c.path_b ∷ c.output_x ∷ c.output_y ∷ c.shared ∷ [])
    (split_by w ∷ u ∷ k.word ∷ k.path_a ∷ k.path_b ∷ k.output_x ∷ k.output_y ∷ k.shared ∷ [])
by_witness u None = refl
by_witness u (Some counts) = refl

pub returns : goal.returns
unfolding numbers_of
returns c = rw (c.is_some-split.ensures, c.unwrap_or-counts.ensures) (by_witness c.args.verdict.useful c.args.verdict.witness)
