-- What the programs print (document 01, "Writer and programs"): records like the file's, with wider fields.
use Rattle.std.specs.Prelude.{Bool, cond, List, [], ◌∷◌, ◌++◌, ℕ, ◌+◌, ◌*◌, ◌≤◌, length}
use Rattle.records.specs.Record.{listing_columns, record_bytes, counted_bytes}
use Rattle.wordsearch.specs.Limits as words
use Rattle.witness.specs.Sides as walks

-- the letter of the verdict, `V`
abbrev pub letter_v : ℕ
letter_v = 86

-- the letter of the input word, `W` (document 01: the cue)
abbrev pub letter_w : ℕ
letter_w = 87

-- the letter of path A, `A`
abbrev pub letter_a : ℕ
letter_a = 65

-- the letter of path B, `B`
abbrev pub letter_b : ℕ
letter_b = 66

-- the letter of the output of A, and of a translation, `X`
abbrev pub letter_x : ℕ
letter_x = 88

-- the letter of the output of B, `Y`
abbrev pub letter_y : ℕ
letter_y = 89

-- the letter of how far X and Y agree, `D`
abbrev pub letter_d : ℕ
letter_d = 68

-- the letter of a refusal, `R`
abbrev pub letter_r : ℕ
letter_r = 82

-- ---- the listings

-- the number of a verdict: 0 single, 1 split
abbrev pub verdict_number : Bool → ℕ
verdict_number split = cond split 1 0

-- the records of a witness: the input word, path A, path B, the outputs of A and B, each a count and then the items; and `D`, how many codes the outputs have
-- in common
unfoldable pub witness_listing : (w a b x y : List ℕ) → ℕ → List ℕ
witness_listing w a b x y shared =
    counted_bytes listing_columns letter_w w ++ counted_bytes listing_columns letter_a a ++ counted_bytes listing_columns letter_b b
    ++ counted_bytes listing_columns letter_x x ++ counted_bytes listing_columns letter_y y ++ record_bytes listing_columns letter_d (shared ∷ [])

-- what the verdict program prints: `V` verdict and u; for split also the witness
unfoldable pub verdict_listing : Bool → ℕ → (w a b x y : List ℕ) → ℕ → List ℕ
verdict_listing split u w a b x y shared =
    record_bytes listing_columns letter_v (verdict_number split ∷ u ∷ []) ++ cond split (witness_listing w a b x y shared) []

-- what either program prints of a refusal: `R`, the number, the record number
unfoldable pub refusal_listing : ℕ → ℕ → List ℕ
refusal_listing number record_number = record_bytes listing_columns letter_r (number ∷ record_number ∷ [])

-- what the translating program prints of an output: one `X` record, a count and then the items
unfoldable pub translation_listing : List ℕ → List ℕ
translation_listing items = counted_bytes listing_columns letter_x items

-- ---- how long they can be: a record has a letter, an end and the columns of its numbers

-- a record of two numbers
abbrev pub pair_bytes : ℕ
pair_bytes = 2 + 2 * listing_columns

-- the most items of a shown input word and of a path
abbrev pub most_steps : ℕ
most_steps = walks.most_steps

-- the most items of a shown output
abbrev pub most_shown : ℕ
most_shown = walks.most_shown

-- the longest listing of a verdict: `V`, five records with their counts and items, and `D`
abbrev pub most_verdict_bytes : ℕ
most_verdict_bytes = pair_bytes + 5 * (2 + listing_columns) + listing_columns * (3 * most_steps + 2 * most_shown) + 2 + listing_columns

-- the most items of a translation
abbrev pub most_translated : ℕ
most_translated = words.most_written

-- the longest listing of a translation
abbrev pub most_translation_bytes : ℕ
most_translation_bytes = 2 + listing_columns + listing_columns * most_translated

-- the items of a verdict are no more than document 01 has, and the buffer has room for the longest listing
pub record VerdictRoom (w a b x y out : List ℕ) : Type 0 where
  pub word : length w ≤ most_steps
  pub path_a : length a ≤ most_steps
  pub path_b : length b ≤ most_steps
  pub output_x : length x ≤ most_shown
  pub output_y : length y ≤ most_shown
  pub room : most_verdict_bytes ≤ length out

-- the items of a translation are no more than document 01 has, and the buffer has room for the longest listing
pub record TranslationRoom (items out : List ℕ) : Type 0 where
  pub few : length items ≤ most_translated
  pub room : most_translation_bytes ≤ length out
