-- `shared` meets its contract: the pairs of codes that are the same, up to the first that is not. Assumes nothing.
use Prim.Native.Nat.{ℕ, zero, suc, min}
use mathlib.Core.Bool.{Bool, cond}
use mathlib.Core.List.{List, [], ◌∷◌}
use mathlib.Core.Path.{◌≡◌, refl, ap, ◌∙◌}
use native.Mathlib.Omega.{arith}
use borrow.Author.Tests.{tests}
use lib.Dec.{eqb}
use lib.ListN.{length, take}
use Rattle.std.proofs.Common.{rules}
use Rattle.std.specs.List.{zip, prefix_len}
use Rattle.std.proofs.lemmas.List.Folds.{length-prefix_len}
use Rattle.std.proofs.lemmas.Iterator.{YieldsList-from_slice, YieldsList-from_zip}
use Rattle.std.proofs.lemmas.Iterator.Consumers.{YieldsList-at, count_from_yields_List}
use Rattle.std.proofs.lemmas.Iterator.Search.{YieldsList-from_take_while}
use Rattle.words.specs.Difference.{shared_of}
use Rattle.words.proofs.shared.Goals as goal

-- the two codes of a pair are the same
abbrev same : ℕ × ℕ → Bool
same p = eqb p.0 p.1

-- in the first n pairs, as many as the shorter list has codes
in-pairs : (n : ℕ) (x y : List ℕ) → n ≡ min (length x) (length y) → prefix_len same (zip (take n x) (take n y)) ≡ shared_of x y
unfolding shared_of
in-pairs zero [] y k = refl
in-pairs zero (a ∷ x) [] k = refl
in-pairs zero (a ∷ x) (b ∷ y) k = absurd (omega arith)
in-pairs (suc n) [] y k = absurd (omega arith)
in-pairs (suc n) (a ∷ x) [] k = absurd (omega arith)
in-pairs (suc n) (a ∷ x) (b ∷ y) k = ap (λ (m : ℕ). cond (eqb a b) m 0) (let e = in-pairs n x y (omega arith) in omega (arith, e))

pub returns : goal.returns
returns c =
    let n = c.min-n.result in
    let x = take n c.args.x.now in
    let y = take n c.args.y.now in
    let pairs = YieldsList-from_zip (YieldsList-at c.zip.ensures.first (YieldsList-from_slice x c.iter.ensures.rest)) (YieldsList-at c.zip.ensures.second (YieldsList-from_slice y c.iter-2.ensures.rest)) in
    count_from_yields_List c.take_while.result _ c.count.ensures.ran
    (YieldsList-from_take_while _ same (YieldsList-at c.take_while.ensures.source pairs) c.take_while.ensures.closure c.take_while.ensures.done (λ x b q k. search (rules, tests)))
    ∙ (length-prefix_len same (zip x y) ∙ in-pairs n c.args.x.now c.args.y.now c.min-n.ensures)
