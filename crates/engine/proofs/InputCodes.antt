-- What a path of a valid transducer reads has input codes only. Assumes nothing.
use mathlib.Core.Path.{◌≡◌, ap}
use mathlib.Core.List.{List, [], ◌∷◌, ◌++◌}
use Prim.Native.Nat.{ℕ, zero, suc, ◌≤◌}
use native.Mathlib.Omega.{arith}
use Rattle.transducer.specs.Limits.{most_code}
use Rattle.transducer.specs.Transition.{InputWord, word_of, at, letter}
use Rattle.transducer.specs.Valid.{Valid}
use Rattle.transducer.specs.Paths.{Path, here, step, reads}
use Rattle.transducer.specs.declared.InputCode.{InputCode}
use Rattle.transducer.specs.declared.Transducer.{Transducer}
use Rattle.transducer.proofs.CodeLaws.{InRange}

-- the empty word has no codes
none_in_range : (input : List ℕ) → [] ≡ word_of input → InRange input
none_in_range [] e = λ i h. absurd (omega arith)
none_in_range (x ∷ input) e = let z : ◌≡◌ {A = ℕ} 0 1 = cc in absurd (omega arith)

-- a word has input codes only if its first code is one and the rest has
more_in_range : (n : ℕ) (x : InputWord) (input : List ℕ) → suc n ≤ most_code → record { 0 = suc n } ∷ x ≡ word_of input
    → ((rest : List ℕ) → x ≡ word_of rest → InRange rest) → InRange input
more_in_range n x [] few e more = let z : ◌≡◌ {A = ℕ} 0 1 = cc in absurd (omega arith)
more_in_range n x (y ∷ input) few e more = go
  where
    first : suc n ≡ y
    first = let c : ◌≡◌ {A = InputCode} (record { 0 = suc n }) (record { 0 = y }) = cc in ap (λ (k : InputCode). k.0) c

    go : InRange (y ∷ input)
    go zero h = let low : 1 ≤ y = omega (arith, first) in let high : y ≤ most_code = omega (arith, first) in (low, high)
    go (suc i) h = more input (cc) i (omega arith)

pub reads_in_range : {t : Transducer} {p q : ℕ} {π : List ℕ} → Valid t → Path t p π q → (input : List ℕ) → reads t π ≡ word_of input → InRange input
reads_in_range v (here e) input r = none_in_range input r
reads_in_range {t} v (step {l = l} {π = π} a b k) input r = go (at t l).input.0 (v.used l a).input_code r (reads_in_range v k)
  where
    go : (n : ℕ) → n ≤ most_code → letter n ++ reads t π ≡ word_of input → ((rest : List ℕ) → reads t π ≡ word_of rest → InRange rest) → InRange input
    go zero few r rest = rest input r
    go (suc n) few r rest = more_in_range n (reads t π) input few r rest
