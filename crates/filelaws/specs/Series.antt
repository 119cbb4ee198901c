-- The file of two tables that were read from files and joined (document 02, job 3). `files_in_series` of proofs/JoinedFiles.antt proves it of every join
-- that is not refused.
use Rattle.std.specs.Prelude.{List, ◌↔◌, ℕ, Ok}
use Rattle.transducer.specs.Transition.{InputWord, OutputWord}
use Rattle.transducer.specs.Paths.{Relates, Functional}
use Rattle.series.specs.Composition.{Composes}
use Rattle.series.specs.Join.{JoinedOf}
use Rattle.engine.specs.Engine.{Taken, table_of}

-- h is a file of the tables of f and g in series
pub record FileInSeries (f g h : List ℕ) : Type 0 where
  -- the reader takes it
  pub taken : Taken h
  -- what it is read to is the join of the two: its states, its lines and their order
  pub joins : JoinedOf (table_of f) (table_of g) (Ok (table_of h))
  -- its relation is the composition of the two
  pub composition : (x : InputWord) (z : OutputWord) → Relates (table_of h) x z ↔ Composes (table_of f) (table_of g) x z
  -- and two functional tables give a functional one
  pub functional : Functional (table_of f) → Functional (table_of g) → Functional (table_of h)
