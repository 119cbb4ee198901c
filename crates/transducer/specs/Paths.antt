-- Paths of a transducer, what they read and write, the relation, and what functional means (document 000, definitions 3.5 to 3.9, 3.19, 3.26).
use Rattle.std.specs.Prelude.{◌≡◌, List, [], ◌∷◌, ◌++◌, ◌≢◌, ◌↔◌, ℕ, ◌<◌}
use Rattle.transducer.specs.StateSet.{In}
use Rattle.transducer.specs.Transition.{InputWord, OutputWord, at, read_by, written_by}
use Rattle.transducer.specs.declared.Transducer.{Transducer}

module _ (t : Transducer) where
  -- a path from p to q (document 000, after example 3.7): a list of transition numbers, each transition leaving the state that the one before entered
  pub data Path : ℕ → List ℕ → ℕ → Type 0 where
    here : {p q : ℕ} → p ≡ q → Path p [] q
    step : {p l q : ℕ} {π : List ℕ} → l < t.count → (at t l).from ≡ p → Path (at t l).to π q → Path p (l ∷ π) q

  -- the input label of a path: the inputs of its transitions joined
  abbrev pub reads : List ℕ → InputWord
  reads [] = []
  reads (l ∷ π) = read_by (at t l) ++ reads π

  -- the output label of a path: the outputs of its transitions joined
  abbrev pub writes : List ℕ → OutputWord
  writes [] = []
  writes (l ∷ π) = written_by (at t l) ++ writes π

  -- an accepting path leads from a start state to a final state; the empty path is accepting at a state that is both
  pub record Accepting (π : List ℕ) : Type 0 where
    pub first : ℕ
    pub last : ℕ
    pub starts : In t.starts first
    pub path : Path first π last
    pub ends : In t.finals last

  -- the output of a path that ends in the final state q: what it writes
  unfoldable pub output_to : List ℕ → ℕ → OutputWord
  output_to π q = writes π

  -- the output of an accepting path
  abbrev pub output_of : {π : List ℕ} → Accepting π → OutputWord
  output_of {π} a = output_to π a.last

  -- the relation realized by t: x and y are the labels of an accepting path
  pub record Relates (x : InputWord) (y : OutputWord) : Type 0 where
    pub π : List ℕ
    pub accepting : Accepting π
    pub read : reads π ≡ x
    pub written : output_of accepting ≡ y

  -- definition 3.19: each input word has no output, or one (document 01: the table is single)
  abbrev pub Functional : Type 0
  Functional = (x : InputWord) (y z : OutputWord) → Relates x y → Relates x z → y ≡ z

  -- definition 3.26: an input word and two different outputs of it (document 01: the table is split)
  pub record Witness (x : InputWord) (y z : OutputWord) : Type 0 where
    pub one : Relates x y
    pub other : Relates x z
    pub differ : y ≢ z

-- definition 3.9: two transducers are equivalent if they realize the same relation
abbrev pub Equivalent : Transducer → Transducer → Type 0
Equivalent t t' = (x : InputWord) (y : OutputWord) → Relates t x y ↔ Relates t' x y
