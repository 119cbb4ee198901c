-- What a way back writes: its last transition is the first of the way, and writes the end of the word. Assumes nothing.
use mathlib.Core.Path.{◌≡◌, ap, ◌∙◌}
use mathlib.Core.List.{List, [], ◌∷◌, ◌++◌, append-nil, reverse, reverse-cons}
use Prim.Native.Nat.{ℕ, ◌+◌}
use lib.ListN.{length, length-append}
use Rattle.transducer.specs.Transition.{InputWord, at, written_by}
use Rattle.transducer.specs.Paths.{Relates}
use Rattle.transducer.specs.declared.Transducer.{Transducer}
use Rattle.transducer.proofs.PathLaws.{writes_append, output_to_lem}
use Rattle.transducer.proofs.SizeLaws.{length_written}
use Rattle.worklist.specs.Links.{way_from}
use Rattle.worklist.specs.Lists.{Worklist}
use Rattle.wordsearch.specs.Answers.{written, Spells}

module _ (t : Transducer) (l : ℕ) (way : List ℕ) where
  -- the last transition writes the end of the word
  pub written_last : written t (l ∷ way) ≡ written t way ++ written_by (at t l)
  written_last = rw (reverse-cons l way, writes_append t (reverse way) (l ∷ [])) (simp append-nil)

  -- so the word is longer by what it writes
  pub written_size : length (written t (l ∷ way)) ≡ length (written t way) + (at t l).count
  written_size =
      ap length written_last ∙ length-append (written t way) (written_by (at t l)) ∙ ap (λ n. length (written t way) + n) (length_written (at t l))

-- what the transitions write along which the parents lead back is an output of the word
pub spelled_relates : {t : Transducer} {N : ℕ} {s : Worklist} {w : InputWord} {place : ℕ} → Spells t N s w place
    → Relates t w (written t (way_from s.parent s.via place))
spelled_relates {t} {s = s} {place = place} k =
    record {
      π = reverse (way_from s.parent s.via place);
      accepting = k.accepting;
      read = k.read;
      written = output_to_lem t _ k.accepting.last;
    }
