-- Tables with the same lines (document 02, job 2: two tables are alike). How often a line stands in a table does not count, nor its place: document
-- 000, definition 3.5, has the transitions as a set. Laws, in proofs/AlikeLaws.antt: to be alike is an equivalence (`alike_self`, `alike_sym`,
-- `alike_trans`); a table with two lines exchanged is alike (`exchanged_alike`), and one with a line more behind the last exactly where that line stood
-- there already (`appended_alike`); alike tables whose lines stand in the same order are one value (`alike_ordered`).
use Rattle.std.specs.Prelude.{◌≡◌, ℕ, set}
use Rattle.transducer.specs.StateSet.{has}
use Rattle.transducer.specs.Transition.{at}
use Rattle.transducer.specs.Lines.{lines_of, transducer_of, AllAmong}
use Rattle.transducer.specs.declared.Transducer.{Transducer}

-- the same number of states, start states and final states, and each line of either stands in the other, repeats not counted; a line is what it leaves,
-- enters, reads and writes (`same_line` of proofs/LineLaws.antt: in use, it has nothing else)
pub record Alike (t t' : Transducer) : Type 0 where
  pub states : t.states ≡ t'.states
  pub starts : (q : ℕ) → has t.starts q ≡ has t'.starts q
  pub finals : (q : ℕ) → has t.finals q ≡ has t'.finals q
  pub there : AllAmong (lines_of t) (lines_of t')
  pub back : AllAmong (lines_of t') (lines_of t)

-- t with lines l and m exchanged
abbrev pub exchanged : Transducer → ℕ → ℕ → Transducer
exchanged t l m = transducer_of t.states t.starts t.finals (set (set (lines_of t) l (at t m)) m (at t l))
