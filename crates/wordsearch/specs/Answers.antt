-- What the search answers: a place from which the parents lead back along an accepting path that reads the word, or that there is none.
use Rattle.std.specs.Prelude.{◌≡◌, ◌≢◌, List, reverse, ℕ, ◌≤◌, ◌<◌, length, get_or, All, Option, MatchOption}
use Rattle.transducer.specs.Transition.{InputWord, OutputWord}
use Rattle.transducer.specs.Paths.{reads, writes, Accepting, Relates}
use Rattle.transducer.specs.declared.Transducer.{Transducer}
use Rattle.worklist.specs.Links.{way_from}
use Rattle.worklist.specs.Lists.{Worklist}
use Rattle.wordsearch.specs.Limits.{most_nodes, most_written}
use Rattle.wordsearch.specs.Way.{Back}

-- a node that satisfies P, or None where there is none
abbrev pub NodeOf : (ℕ → Type 0) → Option ℕ → Type 0
NodeOf P r = MatchOption r ((v : ℕ) → P v → ⊥) (λ v. (v < most_nodes) × P v)

module _ (t : Transducer) where
  -- what the transitions write along which a way leads back
  abbrev pub written : List ℕ → OutputWord
  written way = writes t (reverse way)

  -- a way leads back along transitions of t, which write at most 65,528 codes
  pub record Traced (way : List ℕ) : Type 0 where
    pub used : All (λ l. l < t.count) way
    pub few : length (written way) ≤ most_written

  module _ (N : ℕ) (s : Worklist) where
    -- the place is one of the search's, and the parents lead back from it along an accepting path that reads w; the label of each place up to it that has
    -- a parent is a transition of t
    pub record Spells (w : InputWord) (place : ℕ) : Type 0 where
      pub back : Back N s place
      pub traced : Traced (way_from s.parent s.via place)
      pub used : (i : ℕ) → i ≤ place → get_or s.parent i 0 ≢ 0 → get_or s.via i 0 < t.count
      pub accepting : Accepting t (reverse (way_from s.parent s.via place))
      pub read : reads t (reverse (way_from s.parent s.via place)) ≡ w

    -- the answer to the search for an accepting path that reads w: a place from which the parents lead back along one, or None where there is none
    abbrev pub Answered : InputWord → Option ℕ → Type 0
    Answered w r = MatchOption r ((y : OutputWord) → Relates t w y → ⊥) (Spells w)
