-- Laws of paths: what joined paths read and write, and how paths are joined and cut. Assumes nothing.
use mathlib.Core.Path.{◌≡◌, refl}
use mathlib.Core.List.{List, [], ◌∷◌, ◌++◌, append_assoc}
use Prim.Native.Nat.{ℕ, zero, suc, ◌<◌}
use native.Mathlib.Omega.{arith}
use lib.ListN.{length, get_or}
use Rattle.transducer.specs.Transition.{at}
use Rattle.transducer.specs.Paths.{Path, here, step, reads, writes, output_to}
use Rattle.transducer.specs.declared.Transducer.{Transducer}

module _ (t : Transducer) where
  -- joined paths read the joined words
  pub reads_append : (π ρ : List ℕ) → reads t (π ++ ρ) ≡ reads t π ++ reads t ρ
  reads_append [] ρ = refl
  reads_append (l ∷ π) ρ = rw (reads_append π ρ, append_assoc)

  -- and write the joined words
  pub writes_append : (π ρ : List ℕ) → writes t (π ++ ρ) ≡ writes t π ++ writes t ρ
  writes_append [] ρ = refl
  writes_append (l ∷ π) ρ = rw (writes_append π ρ, append_assoc)

  -- the output of a path to a final state is what it writes
  pub output_to_lem : (π : List ℕ) (q : ℕ) → output_to t π q ≡ writes t π
  unfolding output_to
  output_to_lem π q = refl

  -- of joined paths, what the first writes and the output of the second
  pub output_append : (π ρ : List ℕ) (q : ℕ) → output_to t (π ++ ρ) q ≡ writes t π ++ output_to t ρ q
  unfolding output_to
  output_append π ρ q = writes_append π ρ

  -- a path from p to r cut in two: the state in the middle and the two halves
  pub record PathCut (p : ℕ) (π ρ : List ℕ) (r : ℕ) : Type 0 where
    pub middle : ℕ
    pub front : Path t p π middle
    pub back : Path t middle ρ r

module _ {t : Transducer} where
  -- the empty path leads from a state to itself
  pub path_nil : {p q : ℕ} → Path t p [] q → p ≡ q
  path_nil (here e) = e

  -- two paths that meet are one path
  pub path_join : {p q r : ℕ} {π ρ : List ℕ} → Path t p π q → Path t q ρ r → Path t p (π ++ ρ) r
  path_join (here e) k = rw e k
  path_join (step a b h) k = step a b (path_join h k)

  -- a path can be cut anywhere
  pub path_cut : {p r : ℕ} (π : List ℕ) {ρ : List ℕ} → Path t p (π ++ ρ) r → PathCut t p π ρ r
  path_cut {p} [] h = record { middle = p; front = here refl; back = h }
  path_cut {p = p} {r = r} (l ∷ π) {ρ = ρ} (step a b h) = let c = path_cut {p = (at t l).to} π h in record { middle = c.middle; front = step a b c.front; back = c.back }

  -- every transition number of a path is below the count
  pub path_below : {p q : ℕ} {π : List ℕ} → Path t p π q → (i : ℕ) → i < length π → get_or π i 0 < t.count
  path_below (here e) i h = absurd (omega arith)
  path_below (step a b k) zero h = a
  path_below (step a b k) (suc i) h = path_below k i (omega arith)
