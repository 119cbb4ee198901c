-- What follows where each start state, each final state and each line of one transducer stands in another: what the first relates, the second relates,
-- and what is useful in the first is useful in the second. Assumes nothing.
use mathlib.Core.Path.{◌≡◌, refl, sym, ap, ◌∙◌}
use mathlib.Core.List.{List, [], ◌∷◌, ◌++◌}
use Prim.Native.Nat.{ℕ}
use Rattle.transducer.specs.StateSet.{In}
use Rattle.transducer.specs.Transition.{InputWord, OutputWord, at}
use Rattle.transducer.specs.Lines.{lines_of, transducer_of, AllAmong}
use Rattle.transducer.specs.Paths.{Path, here, step, reads, writes, Relates, Functional}
use Rattle.transducer.specs.Useful.{Through, UsefulState, UsefulPair}
use Rattle.transducer.specs.declared.Transition.{Transition}
use Rattle.transducer.specs.declared.Transducer.{Transducer}
use Rattle.transducer.proofs.PathLaws.{reads_append, output_to_lem}
use Rattle.transducer.proofs.LineLaws.{at_among, among_numbered, made_lines}

-- each start state, each final state and each line of t stands in t'
pub record Within (t t' : Transducer) : Type 0 where
  pub starts : (q : ℕ) → In t.starts q → In t'.starts q
  pub finals : (q : ℕ) → In t.finals q → In t'.finals q
  pub transitions : AllAmong (lines_of t) (lines_of t')

-- t with lines that all stand in t
pub lines_within : (t : Transducer) (lines : List Transition) → AllAmong lines (lines_of t)
    → Within (transducer_of t.states t.starts t.finals lines) t
unfolding transducer_of
lines_within t lines among =
    record {
      starts = λ q h. h;
      finals = λ q h. h;
      transitions = λ v m. among v (rw (made_lines t.states t.starts t.finals lines) at m);
    }

-- a path of t from p to q that reads x and writes y
pub record Labelled (t : Transducer) (p q : ℕ) (x : InputWord) (y : OutputWord) : Type 0 where
  pub π : List ℕ
  pub path : Path t p π q
  pub read : reads t π ≡ x
  pub written : writes t π ≡ y

-- where it leads from a start state to a final one, x and y are related
pub labelled_relates : {t : Transducer} {p q : ℕ} {x : InputWord} {y : OutputWord} → In t.starts p → Labelled t p q x y → In t.finals q
    → Relates t x y
labelled_relates {t} {p} {q} s k f =
    record {
      π = k.π;
      accepting = record { first = p; last = q; starts = s; path = k.path; ends = f };
      read = k.read;
      written = output_to_lem t k.π q ∙ k.written;
    }

-- ---- what follows from Within

module _ {t t' : Transducer} (h : Within t t') where
  -- for a path of t, t' has one between the same states with the same labels
  pub path_within : {p q : ℕ} {π : List ℕ} → Path t p π q → Labelled t' p q (reads t π) (writes t π)
  path_within (here e) = record { π = []; path = here e; read = refl; written = refl }
  path_within (step {l = l} {q = q} a b k) =
      let m = among_numbered t' (h.transitions (at t l) (at_among t l a)) in
      let r = path_within k in
      record {
        π = m.number ∷ r.π;
        path = step {q = q} {π = r.π} m.below (ap (λ v. v.from) m.same ∙ b) (rw m.same r.path);
        read = rw (m.same, r.read);
        written = rw (m.same, r.written);
      }

  -- what t relates, t' relates
  pub relates_within : {x : InputWord} {y : OutputWord} → Relates t x y → Relates t' x y
  relates_within r =
      let a = r.accepting in
      rw (← r.read, ← r.written, output_to_lem t r.π a.last)
      (labelled_relates (h.starts _ a.starts) (path_within a.path) (h.finals _ a.ends))

  -- if t' is functional, so is t
  pub functional_within : Functional t' → Functional t
  functional_within f x y z r s = f x y z (relates_within r) (relates_within s)

  -- a useful state of t is useful in t': an accepting path passes through it there too
  pub useful_state_within : {q : ℕ} → UsefulState t q → UsefulState t' q
  useful_state_within u =
      let front = path_within u.comes in
      let back = path_within u.goes in
      record {
        first = u.first;
        last = u.last;
        front = front.π;
        back = back.π;
        starts = h.starts _ u.starts;
        comes = front.path;
        goes = back.path;
        ends = h.finals _ u.ends;
      }

  -- its first half reads the same, and so does the whole path
  front_reads : {q : ℕ} (u : Through t q) → reads t' (useful_state_within u).front ≡ reads t u.front
  unfolding useful_state_within
  front_reads u = (path_within u.comes).read

  whole_reads : {q : ℕ} (u : Through t q)
      → reads t' ((useful_state_within u).front ++ (useful_state_within u).back) ≡ reads t (u.front ++ u.back)
  unfolding useful_state_within
  whole_reads u = simp (reads_append, (path_within u.comes).read, (path_within u.goes).read)

  -- a useful pair of t is useful in t'
  pub useful_pair_within : {p q : ℕ} → UsefulPair t p q → UsefulPair t' p q
  useful_pair_within u =
      record {
        one = useful_state_within u.one;
        other = useful_state_within u.other;
        same_word = whole_reads u.one ∙ u.same_word ∙ sym (whole_reads u.other);
        same_front = front_reads u.one ∙ u.same_front ∙ sym (front_reads u.other);
      }
