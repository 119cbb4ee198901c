-- The difference of two words (document 01, "The difference of two outputs"). A word is a list of codes, and any bytes count as codes.
use Rattle.std.specs.Prelude.{cond, List, [], ◌∷◌, ℕ, suc, ◌+◌, eqb}
use Rattle.words.specs.declared.Comparison.{Comparison}
use Rattle.words.specs.declared.Comparison.TheVariants.{Level, FirstAhead, SecondAhead, Clash}

-- how many codes the two have in common at the beginning
unfoldable pub shared_of : List ℕ → List ℕ → ℕ
shared_of [] y = 0
shared_of (a ∷ x) [] = 0
shared_of (a ∷ x) (b ∷ y) = cond (eqb a b) (suc (shared_of x y)) 0

-- how two words compare with n common codes more in front: a clash has n codes more before it, and all else is as it was
abbrev pub later_by : ℕ → Comparison → Comparison
later_by n Level = Level
later_by n FirstAhead = FirstAhead
later_by n SecondAhead = SecondAhead
later_by n (Clash m) = Clash (n + m)

-- strip what they have in common at the beginning: if nothing is left, level; if one is used up, the other is ahead; otherwise, clash, with how many codes
-- are stripped
unfoldable pub difference_of : List ℕ → List ℕ → Comparison
difference_of [] [] = Level
difference_of [] (b ∷ y) = SecondAhead
difference_of (a ∷ x) [] = FirstAhead
difference_of (a ∷ x) (b ∷ y) = cond (eqb a b) (later_by 1 (difference_of x y)) (Clash 0)

-- the number that a comparison carries: of a clash, how many codes the two have in common at the beginning; otherwise 0
abbrev pub carried_of : Comparison → ℕ
carried_of Level = 0
carried_of FirstAhead = 0
carried_of SecondAhead = 0
carried_of (Clash n) = n

-- strip the same: if one is used up, the unmatched end of the longer one; for level and clash it is empty
unfoldable pub unmatched_of : List ℕ → List ℕ → List ℕ
unmatched_of [] y = y
unmatched_of (a ∷ x) [] = a ∷ x
unmatched_of (a ∷ x) (b ∷ y) = cond (eqb a b) (unmatched_of x y) []

-- n places past a place: a place is a block of memory and how far into it
abbrev pub past : ℕ → ℕ × ℕ → ℕ × ℕ
past n place = (place.0, n + place.1)

-- the list that the part shown is of: the second where it is ahead, else the first
abbrev pub of_ahead : {A : Type 0} → Comparison → A → A → A
of_ahead Level x y = x
of_ahead FirstAhead x y = x
of_ahead SecondAhead x y = y
of_ahead (Clash n) x y = x

-- where the part shown begins, of lists that begin at px and py: in the list that is ahead, past what the two have in common; for level and clash,
-- where the part is empty, in the first
abbrev pub shown_at : List ℕ → List ℕ → ℕ × ℕ → ℕ × ℕ → ℕ × ℕ
shown_at x y px py = past (shared_of x y) (of_ahead (difference_of x y) px py)
