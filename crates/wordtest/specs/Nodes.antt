-- The search behind the answer, over a machine and what its transitions write: which states it comes to, with which parts of the two words.
use Rattle.std.specs.Prelude.{◌≡◌, List, ℕ, ◌+◌, ◌<◌, length, get_or}
use Rattle.transducer.specs.StateSet.{In}
use Rattle.transducer.specs.declared.StateSet.{StateSet}
use Rattle.wordrows.specs.Leads.{Leads}

module _ (m written : List ℕ) (starts : StateSet) (input output : List ℕ) where
  -- transitions lead from a start state to the state q, read the first i codes of the input word and write the first j of the output word
  pub data Comes : ℕ → ℕ → ℕ → Type 0 where
    first : {i j q : ℕ} → i ≡ 0 → j ≡ 0 → In starts q → Comes i j q
    silent : {i j q l k p : ℕ} → Comes i j q → Leads m written output 0 j q l k p → Comes i k p
    reading : {i i' j q l k p : ℕ} → i' ≡ i + 1 → i < length input → Comes i j q → Leads m written output (get_or input i 0) j q l k p → Comes i' k p

-- it comes to the end of both words in a final state
pub record Arrives (m written : List ℕ) (starts finals : StateSet) (input output : List ℕ) : Type 0 where
  pub last : ℕ
  pub comes : Comes m written starts input output (length input) (length output) last
  pub final : In finals last
