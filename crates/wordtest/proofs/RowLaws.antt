-- The rows and the search: before the row i is closed, what is reached from its marks is what the search comes to with i codes read; so it is for the next
-- row when this one is closed, and the last row answers. Assumes nothing.
use mathlib.Core.Path.{◌≡◌, refl}
use mathlib.Core.Bool.{Bool, true}
use mathlib.Core.List.{List}
use mathlib.Core.Logic.{◌↔◌}
use Prim.Native.Nat.{ℕ, ◌+◌, ◌<◌}
use native.Mathlib.Omega.{arith}
use lib.ListN.{length, get_or}
use Rattle.transducer.specs.declared.StateSet.{StateSet}
use Rattle.wordrows.specs.Rows.{Marked, Row, Ends, From, Started, Entered, Swept}
use Rattle.wordtest.specs.Nodes.{Comes, Arrives}

module _ (m written : List ℕ) (starts : StateSet) (input output : List ℕ) where
  -- the row for the position i, before it is closed
  pub record Begun (i : ℕ) (here : List ℕ) : Type 0 where
    pub row : Row m written output here
    pub exactly : (j q : ℕ) → From m written output (Marked here) j q ↔ Comes m written starts input output i j q

module _ {m written : List ℕ} {starts : StateSet} {input output : List ℕ} where
  -- what is reached from where the search comes to is where it comes to
  comes_from : {P : ℕ → ℕ → Type 0} {i : ℕ} → ((j q : ℕ) → P j q → Comes m written starts input output i j q) → {j q : ℕ}
      → From m written output P j q → Comes m written starts input output i j q
  comes_from h (From.root k) = h _ _ k
  comes_from h (From.silent r x) = Comes.silent (comes_from h r) x

  -- the first row
  pub begun_first : {here : List ℕ} → Started m written output starts here → Begun m written starts input output 0 here
  begun_first {here} s =
      record {
        row = s.rows;
        exactly = λ j q. (comes_from (λ j q k. comes_from (λ j q a. Comes.first refl a.0 a.1) (s.only j q k)), λ c. back c refl);
      }
    where
      back : {i j q : ℕ} → Comes m written starts input output i j q → i ≡ 0 → From m written output (Marked here) j q
      back {j = j} {q = q} (Comes.first z o a) e = From.root (s.all j q (o, a))
      back (Comes.silent c x) e = From.silent (back c e) x
      back (Comes.reading n h c x) e = absurd (omega arith)

  -- the next row
  pub begun_next : {i : ℕ} {here here' next : List ℕ} → i < length input → Begun m written starts input output i here
      → Swept m written output (get_or input i 0) here here' next → Begun m written starts input output (i + 1) next
  begun_next {i} {here} {here'} {next} low b s =
      record { row = s.next.rows; exactly = λ j q. (comes_from (λ j q k. comes_from (λ j q e. entered e) (s.next.only j q k)), λ c. back c refl) }
    where
      entered : {j q : ℕ} → Entered m written output here (get_or input i 0) j q → Comes m written starts input output (i + 1) j q
      entered e = Comes.reading refl low ((b.exactly e.j e.q).0 e.reached) e.leads

      back : {n j q : ℕ} → Comes m written starts input output n j q → n ≡ i + 1 → From m written output (Marked next) j q
      back (Comes.first z o a) e = absurd (omega arith)
      back (Comes.silent c x) e = From.silent (back c e) x
      back {j = k} {q = p} (Comes.reading {i = n} {j = j} {q = q} {l = l} d h c x) e =
          let same : n ≡ i = omega arith in
          From.root (s.next.all k p (record { j = j; q = q; l = l; reached = (b.exactly j q).1 (rw same at c); leads = rw same at x }))

  -- the last row, closed, answers
  pub last_arrives : {finals : StateSet} {i code : ℕ} {here here' next : List ℕ} {r : Bool} → i ≡ length input
      → Begun m written starts input output i here → Swept m written output code here here' next
      → (r ≡ true) ↔ Ends finals here' (length output) → (r ≡ true) ↔ Arrives m written starts finals input output
  last_arrives {i = i} {here' = here'} e b s ends = (
    λ k. let f = ends.0 k in
        record { last = f.state; comes = (rw e at comes f.state).0 f.marked; final = f.final },
    λ a. ends.1 (record { state = a.last; marked = (comes a.last).1 (rw e a.comes); final = a.final }),
  )
    where
      comes : (q : ℕ) → Marked here' (length output) q ↔ Comes m written starts input output i (length output) q
      comes q = (
        λ k. (b.exactly (length output) q).0 ((s.reached (length output) q).0 k),
        λ c. (s.reached (length output) q).1 ((b.exactly (length output) q).1 c),
      )
