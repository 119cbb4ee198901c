-- Small files and listings, byte for byte: the letters, columns and numbers of document 01 a second time, as it prints them. `files` and `listings` are the
-- lists; proofs/Files.antt shows that every case of them holds.
use Rattle.std.specs.Prelude.{◌≡◌, true, false, List, [], ◌∷◌, ◌++◌, ℕ, length, take}
use Prim.Native.Char.{code}
use Prim.Native.String.{String, [] as endˢ, ◌∷◌ as ◌∷ˢ◌}
use Rattle.buffers.specs.Put.{Puts}
use Rattle.transducer.specs.declared.Transducer.{Transducer}
use Rattle.tablereader.specs.Outcome.{number_of, record_of}
use Rattle.tablereader.specs.Reader.{read_of}
use Rattle.tablewriter.specs.File.{write_of}
use Rattle.tablefile.specs.RoundTrips.{taken_as}
use Rattle.listing.specs.Listing.{verdict_listing, refusal_listing, translation_listing}
use Rattle.report.specs.Report.{VerdictReport}
use Rattle.cases.specs.Cases.{table_p, table_d}

-- the bytes of a text
unfoldable pub bytes : String → List ℕ
bytes endˢ = []
bytes (c ∷ˢ text) = code c ∷ bytes text

-- the bytes of lines, each with byte 10 behind it
unfoldable pub lines : List String → List ℕ
lines [] = []
lines (line ∷ rest) = bytes line ++ (10 ∷ lines rest)

-- ---- files

pub data FileCase : Type 0 where
  -- a file and its table: the file is read to the table, and the table is written as the file
  file_of : List ℕ → Transducer → FileCase
  -- a text that is taken
  taken : List ℕ → FileCase
  -- a text that is refused; the number and the record number
  refused : List ℕ → ℕ → ℕ → FileCase

abbrev pub FileHolds : FileCase → Type 0
FileHolds (file_of text t) = (write_of t ≡ text) × (read_of text ≡ taken_as t)
FileHolds (taken text) = number_of (read_of text) ≡ 0
FileHolds (refused text number record_number) =
    (number_of (read_of text) ≡ number) × (record_of (read_of text) ≡ record_number)

-- table P as document 01 prints it
unfoldable pub file_p : List ℕ
file_p = lines ("T   1   1   1   2" ∷ "S   0" ∷ "F   0" ∷ "L   0   0   1   1   5" ∷ "L   0   0   1   1   6" ∷ [])

-- table D
unfoldable pub file_d : List ℕ
file_d =
    lines
    ("T   4   1   1   4" ∷ "S   0" ∷ "F   3" ∷ "L   0   1   1   2   5   6" ∷ "L   1   3   2   0" ∷ "L   0   2   1   0" ∷ "L   2   3   2   2   5   6" ∷ [])

-- one state, start and final, and one line, its record as given
unfoldable pub with_line : String → List ℕ
with_line line = lines ("T   1   1   1   1" ∷ "S   0" ∷ "F   0" ∷ line ∷ [])

unfoldable pub files : List FileCase
files =
    file_of file_p table_p
    ∷ file_of file_d (table_d (5 ∷ 6 ∷ []))
    -- 1: the text ends inside a record or before it
    ∷ refused [] 1 0
    ∷ refused (bytes "T   1") 1 0
    ∷ refused (bytes "T   1   1") 1 0
    ∷ refused (take 73 file_p) 1 4
    -- 2: wrong letter or record end
    ∷ refused (lines ("X  00   0   0   0" ∷ [])) 2 0
    ∷ refused (lines ("T   1   1   1   0" ∷ "F   0" ∷ "S   0" ∷ [])) 2 1
    ∷ refused (lines ("T   1   1   0   0" ∷ "S   0X" ∷ [])) 2 1
    -- 3: a field isn't a number; "field `  00` gives 3"
    ∷ refused (lines ("T  00   0   0   0" ∷ [])) 3 0
    ∷ refused (lines ("T   1   1   0   0" ∷ "S   x" ∷ [])) 3 1
    ∷ refused (lines ("T   1   1   0   0" ∷ "S 0  " ∷ [])) 3 1
    ∷ refused (lines ("T   1   1   0   0" ∷ "S    X" ∷ [])) 3 1
    -- 4: a field is outside its range; "n 32 taken, 33 gives 4; k 256 taken, 257 gives 4" (of k 256 the records that follow are looked for)
    ∷ taken (lines ("T  32   0   0   0" ∷ []))
    ∷ refused (lines ("T  33   0   0   0" ∷ [])) 4 0
    ∷ refused (lines ("T   0   0   0   0" ∷ [])) 4 0
    ∷ refused (lines ("T   1  33   0   0" ∷ [])) 4 0
    ∷ refused (lines ("T   1   0  33   0" ∷ [])) 4 0
    ∷ refused (lines ("T   1   0   0 256" ∷ [])) 1 1
    ∷ refused (lines ("T   1   0   0 257" ∷ [])) 4 0
    ∷ refused (lines ("T   1   1   0   0" ∷ "S   1" ∷ [])) 4 1
    ∷ taken (with_line "L   0   0 250   8   1   1   1   1   1   1   1 250")
    ∷ refused (with_line "L   1   0   0   0") 4 3
    ∷ refused (with_line "L   0   1   0   0") 4 3
    ∷ refused (with_line "L   0   0 251   0") 4 3
    ∷ refused (with_line "L   0   0   1   9   1   1   1   1   1   1   1   1   1") 4 3
    ∷ refused (with_line "L   0   0   1   1   0") 4 3
    ∷ refused (with_line "L   0   0   1   1 251") 4 3
    -- 5: the states do not rise
    ∷ refused (lines ("T   2   2   0   0" ∷ "S   1" ∷ "S   1" ∷ [])) 5 2
    ∷ refused (lines ("T   2   0   2   0" ∷ "F   1" ∷ "F   0" ∷ [])) 5 2
    -- 6: bytes follow the last record
    ∷ refused (file_p ++ (10 ∷ [])) 6 5
    ∷ []

-- ---- listings

-- what the verdict program prints of table P
unfoldable pub listing_p : List ℕ
listing_p = lines ("V     1     1" ∷ "W     1     1" ∷ "A     1     0" ∷ "B     1     1" ∷ "X     1     5" ∷ "Y     1     6" ∷ "D     0" ∷ [])

-- from the bytes of its file, whatever else the contracts leave open: any report that meets the verdict program's contract
abbrev pub PrintedP : Type 0
PrintedP = (out₀ out : List ℕ) (n : ℕ) → VerdictReport file_p out₀ out n → Puts out₀ 0 listing_p out n

-- "fields six wide": listings of a single table with u = 6, of a split one with the largest number in `D` (whatever its lists are), of a refusal, and of a
-- translation; and the size of table P's file
pub record Listings : Type 0 where
  pub single : verdict_listing false 6 [] [] [] [] [] 0 ≡ lines ("V     0     6" ∷ [])
  -- document 02, job 8: "A split listing, and no other, gains a last record `D` with this number"
  pub split : verdict_listing true 6 [] [] (0 ∷ []) [] (5 ∷ []) 16375
      ≡ lines ("V     1     6" ∷ "W     0" ∷ "A     0" ∷ "B     1     0" ∷ "X     0" ∷ "Y     1     5" ∷ "D 16375" ∷ [])
  pub refusal : refusal_listing 3 17 ≡ lines ("R     3    17" ∷ [])
  pub output : translation_listing (5 ∷ 250 ∷ []) ≡ lines ("X     2     5   250" ∷ [])
  -- "74 bytes"
  pub size_p : length file_p ≡ 74
