-- Table D, whatever its last line writes: six pairs are useful, those of two states that are equally deep. Assumes nothing.
use mathlib.Core.Path.{◌≡◌, refl, sym, ap, ◌∙◌}
use mathlib.Core.Bool.{true}
use mathlib.Core.List.{List, [], ◌∷◌}
use Prim.Native.Nat.{ℕ, zero, suc, ◌+◌, ◌<◌}
use native.Mathlib.Omega.{arith}
use lib.ListN.{length, length-append}
use Rattle.transducer.specs.StateSet.{has, with_state}
use Rattle.transducer.specs.Transition.{at, read_by}
use Rattle.transducer.specs.Lines.{transducer_of}
use Rattle.transducer.specs.Paths.{Path, here, step, reads}
use Rattle.transducer.specs.Useful.{Through, UsefulPair}
use Rattle.transducer.proofs.PathLaws.{path_join}
use Rattle.product.specs.Numbers.{pair_of, first_of, second_of}
use Rattle.pairs.specs.UsefulPairs.{has_pair, count_true}
use Rattle.functionality.specs.Decided.{UsefulCount}
use Rattle.cases.specs.Cases.{set_of_states, table_d}
use Rattle.cases.proofs.Each.{Each, more, nothing}
use Rattle.cases.proofs.Pairs.{flags_of, useful_count}
use Rattle.cases.proofs.PathsOfD.{below_four, line_0, line_1, line_2, line_3, start_0}

-- how many codes are read on the way to a state
abbrev depth : ℕ → ℕ
depth zero = 0
depth (suc zero) = 1
depth (suc (suc zero)) = 1
depth (suc (suc (suc q))) = 2

module _ (last : List ℕ) where
  -- a path reads as many codes as it goes deeper
  goes_deeper : {p q : ℕ} {π : List ℕ} → p < 4 → Path (table_d last) p π q → (depth p + length (reads (table_d last) π) ≡ depth q) × (q < 4)
  unfolding transducer_of
  goes_deeper h (here e) = (rw e (omega arith), omega arith)
  goes_deeper {p} h (step {l = l} {π = π} a b k) =
      let one = below_four
      (λ l. (at (table_d last) l).from ≡ p
      → (depth p + length (read_by (at (table_d last) l)) ≡ depth (at (table_d last) l).to) × ((at (table_d last) l).to < 4))
      (λ e. (rw (sym e), omega arith))
      (λ e. (rw (sym e), omega arith))
      (λ e. (rw (sym e), omega arith))
      (λ e. (rw (sym e), omega arith))
      l a b in
      let rest = goes_deeper one.1 k in
      (omega (arith, one.0, rest.0, length-append (read_by (at (table_d last) l)) (reads (table_d last) π)), rest.1)

  -- a path from 0 to 3, cut anywhere, is accepting
  unfoldable through : {q : ℕ} {front back : List ℕ} → Path (table_d last) 0 front q → Path (table_d last) q back 3 → Through (table_d last) q
  unfolding transducer_of set_of_states with_state has
  through {q} {front} {back} c g =
      record { first = 0; last = 3; front = front; back = back; starts = refl; comes = c; goes = g; ends = refl }

  unfoldable through_0 : Through (table_d last) 0
  through_0 = through (here refl) (path_join (line_0 last) (line_1 last))

  unfoldable through_1 : Through (table_d last) 1
  through_1 = through (line_0 last) (line_1 last)

  unfoldable through_2 : Through (table_d last) 2
  through_2 = through (line_2 last) (line_3 last)

  unfoldable through_3 : Through (table_d last) 3
  through_3 = through (path_join (line_0 last) (line_1 last)) (here refl)

  -- the pairs of 0 with itself, of 3 with itself, and of 1 and 2 in each order and with themselves
  abbrev pairs_d : List ℕ
  pairs_d = pair_of 0 0 ∷ pair_of 1 1 ∷ pair_of 1 2 ∷ pair_of 2 1 ∷ pair_of 2 2 ∷ pair_of 3 3 ∷ []

  each_useful : Each (λ v. UsefulPair (table_d last) (first_of v) (second_of v)) pairs_d
  unfolding transducer_of through through_0 through_1 through_2 through_3
  each_useful =
      more (record { one = through_0; other = through_0; same_word = refl; same_front = refl })
      (more (record { one = through_1; other = through_1; same_word = refl; same_front = refl })
      (more (record { one = through_1; other = through_2; same_word = refl; same_front = refl })
      (more (record { one = through_2; other = through_1; same_word = refl; same_front = refl })
      (more (record { one = through_2; other = through_2; same_word = refl; same_front = refl })
      (more (record { one = through_3; other = through_3; same_word = refl; same_front = refl })
      nothing)))))

  -- equally deep states are in one of these pairs
  abbrev Listed : ℕ → ℕ → Type 0
  Listed p q = depth p ≡ depth q → has_pair (record { member = flags_of pairs_d }) p q ≡ true

  equally_deep : (p : ℕ) → p < 4 → (q : ℕ) → q < 4 → Listed p q
  unfolding has_pair flags_of
  equally_deep =
      below_four (λ p. (q : ℕ) → q < 4 → Listed p q)
      (below_four (Listed 0) (λ e. refl) (λ e. absurd (omega arith)) (λ e. absurd (omega arith)) (λ e. absurd (omega arith)))
      (below_four (Listed 1) (λ e. absurd (omega arith)) (λ e. refl) (λ e. refl) (λ e. absurd (omega arith)))
      (below_four (Listed 2) (λ e. absurd (omega arith)) (λ e. refl) (λ e. refl) (λ e. absurd (omega arith)))
      (below_four (Listed 3) (λ e. absurd (omega arith)) (λ e. absurd (omega arith)) (λ e. absurd (omega arith)) (λ e. refl))

  -- the first half of an accepting path
  from_start : {q : ℕ} (h : Through (table_d last) q) → (length (reads (table_d last) h.front) ≡ depth q) × (q < 4)
  from_start h =
      let d = goes_deeper (omega (arith, start_0 last h.first h.starts)) h.comes in
      (omega (arith, rw (start_0 last h.first h.starts) at d.0), d.1)

  -- u is 6
  pub useful_d : UsefulCount (table_d last) 6
  unfolding flags_of count_true
  useful_d =
      useful_count each_useful
      (λ p q u.
      let one = from_start u.one in
      let other = from_start u.other in
      equally_deep p one.1 q other.1 (sym one.0 ∙ ap length u.same_front ∙ other.0))
