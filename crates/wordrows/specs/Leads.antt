-- Where the transitions of a machine lead in an output word, from a position in it and a state; what each writes is given by a list of entries.
use Rattle.std.specs.Prelude.{◌≡◌, List, ℕ, ◌+◌, ◌≤◌, length}
use Rattle.product.specs.Machine.{key_of, to_of, Leaves, Machine}
use Rattle.outputs.specs.Outputs.{count_at, codes_at, HeldAt}
use Rattle.closure.specs.Closure.{ClosureOf}
use Rattle.wordrows.specs.Limits.{most_output}

-- what the rows of an output word are made of, as lists: a machine, what its transitions write, the closures of its states, and the word
pub record Ground : Type 0 where
  pub m : List ℕ
  pub written : List ℕ
  pub closures : List ℕ
  pub output : List ℕ

-- it is right: a machine, the closures of its states, and an output word that is not too long
pub record Lent (m written closures output : List ℕ) : Type 0 where
  pub machine : Machine m
  pub closed : ClosureOf m written closures
  pub short : length output ≤ most_output

-- transition l, whose key is `code`, leads from the state q at the position j to the state p at the position k: all that it writes stands between the
-- two positions
pub record Leads (m written output : List ℕ) (code j q l k p : ℕ) : Type 0 where
  pub leaves : Leaves m l q
  pub key : key_of m l ≡ code
  pub enters : to_of m l ≡ p
  pub position : k ≡ j + count_at written l
  pub writes : HeldAt output j (codes_at written l)
