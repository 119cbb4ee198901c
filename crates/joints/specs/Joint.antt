-- Joint steps of two transducers in series, and the joined pairs of states (document 02, job 3).
use Rattle.std.specs.Prelude.{◌≡◌, Bool, true, false, ◌&&◌, ℕ, zero, suc, eqb, leb, ltb}
use Rattle.transducer.specs.StateSet.{In}
use Rattle.transducer.specs.Transition.{as_input, at, output_at}
use Rattle.transducer.specs.Valid.{all_below}
use Rattle.transducer.specs.declared.Transducer.{Transducer}

-- every transition of t writes at most one code: what the first of two transducers in series has to keep, useful or not
unfoldable pub one_code_of : Transducer → Bool
one_code_of t = all_below t.count (λ l. leb (at t l).count 1)

-- In a step each side takes one transition or none: 0 stands for none, and l + 1 for the transition l.

-- the state of a side after a step in which it takes a, having been in p
abbrev pub after : Transducer → ℕ → ℕ → ℕ
after t p zero = p
after t p (suc l) = (at t l).to

-- whether the transition l leaves p
abbrev pub leaves : Transducer → ℕ → ℕ → Bool
leaves t l p = ltb l t.count && eqb (at t l).from p

module _ (first second : Transducer) where
  -- whether a and b are a joint step from the pair p, q: a transition of the first that writes a code and one of the second that reads that code;
  -- or one of the first that writes nothing, alone; or one of the second that reads nothing, alone
  unfoldable pub joint_step : ℕ → ℕ → ℕ → ℕ → Bool
  joint_step p q zero zero = false
  joint_step p q (suc l) zero = leaves first l p && eqb (at first l).count 0
  joint_step p q zero (suc m) = leaves second m q && eqb (at second m).input.0 0
  joint_step p q (suc l) (suc m) =
      leaves first l p && leaves second m q && eqb (at first l).count 1 && eqb (as_input (output_at (at first l) 0)).0 (at second m).input.0

  -- joint steps lead from the pair p, q to the pair p', q'
  pub data JointPath : ℕ → ℕ → ℕ → ℕ → Type 0 where
    here : {p q p' q' : ℕ} → p ≡ p' → q ≡ q' → JointPath p q p' q'
    step : {p q p' q' : ℕ} (a b : ℕ) → joint_step p q a b ≡ true → JointPath (after first p a) (after second q b) p' q' → JointPath p q p' q'

  -- joint steps lead to p, q from two start states
  pub record Reached (p q : ℕ) : Type 0 where
    pub s : ℕ
    pub s' : ℕ
    pub starts : In first.starts s
    pub starts' : In second.starts s'
    pub comes : JointPath s s' p q

  -- joint steps lead from p, q to two final states
  pub record Finishes (p q : ℕ) : Type 0 where
    pub f : ℕ
    pub f' : ℕ
    pub goes : JointPath p q f f'
    pub ends : In first.finals f
    pub ends' : In second.finals f'

  -- a joined pair: joint steps reach it from two start states, and from it they reach two final ones
  pub record JoinedPair (p q : ℕ) : Type 0 where
    pub reached : Reached p q
    pub finishes : Finishes p q
