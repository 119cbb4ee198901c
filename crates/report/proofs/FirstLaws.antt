-- The programs read the first bytes of a file and the first codes of a word: what is printed of these is what is to be printed of the whole. Assumes nothing.
use mathlib.Core.Path.{◌≡◌, refl, ap, ◌∙◌}
use mathlib.Core.Bool.{Bool, true, false}
use mathlib.Core.List.{List}
use Prim.Native.Nat.{ℕ, ◌≤◌}
use native.Mathlib.Omega.{arith}
use borrow.Author.Tests.{leb-true, leb-false}
use lib.Dec.{leb}
use lib.ListN.{length, take}
use lib.Seq.{length-take-le, take_all}
use Rattle.transducer.specs.Refusals.{word_too_long}
use Rattle.translator.specs.Words as words
use Rattle.translator.proofs.RefusalLaws.{refusal_long}
use Rattle.tablereader.specs.Outcome as reader
use Rattle.tablereader.specs.Outcome.{table_of_reading}
use Rattle.tablereader.specs.Reader.{read_of}
use Rattle.tablereader.proofs.Validity.{read_accepted}
use Rattle.tablereader.proofs.LongestLaws.{longest_file}
use Rattle.engine.specs.Engine.{number_of, record_of, table_of}
use Rattle.report.specs.Report.{read_bytes, read_codes}
use Rattle.report.specs.Printed.{VerdictPrinted, TranslationPrinted, FirstBytes}

-- those of a file are read to the same as the whole
seen : (f : List ℕ) → read_of (take read_bytes f) ≡ read_of f
seen f = longest_file.seen f read_bytes (omega arith)

table_seen : (f : List ℕ) → table_of (take read_bytes f) ≡ table_of f
table_seen f = ap table_of_reading (seen f)

number_seen : (f : List ℕ) → number_of (take read_bytes f) ≡ number_of f
number_seen f = ap reader.number_of (seen f)

record_seen : (f : List ℕ) → record_of (take read_bytes f) ≡ record_of f
record_seen f = ap reader.record_of (seen f)

verdict_seen : (f listing : List ℕ) → VerdictPrinted (take read_bytes f) listing → VerdictPrinted f listing
verdict_seen f listing (VerdictPrinted.refused n e) = VerdictPrinted.refused (rw (number_seen f) at n) (rw (number_seen f, record_seen f) at e)
verdict_seen f listing (VerdictPrinted.single t k u e) =
    VerdictPrinted.single (rw (number_seen f) at t) (rw (table_seen f) at k) (rw (table_seen f) at u) e
verdict_seen f listing (VerdictPrinted.split t k u s e) =
    VerdictPrinted.split (rw (number_seen f) at t) (rw (table_seen f) at k) (rw (table_seen f) at u) (rw (table_seen f) at s) e

file_seen : (f input listing : List ℕ) → TranslationPrinted (take read_bytes f) input listing → TranslationPrinted f input listing
file_seen f input listing (TranslationPrinted.refused n e) =
    TranslationPrinted.refused (rw (number_seen f) at n) (rw (number_seen f, record_seen f) at e)
file_seen f input listing (TranslationPrinted.unfit t z e) =
    TranslationPrinted.unfit (rw (number_seen f) at t) (rw (table_seen f) at z) (rw (table_seen f) at e)
file_seen f input listing (TranslationPrinted.unread t z k e) =
    TranslationPrinted.unread (rw (number_seen f) at t) (rw (table_seen f) at z) (rw (table_seen f) at k) e
file_seen f input listing (TranslationPrinted.written t z a e) =
    TranslationPrinted.written (rw (number_seen f) at t) (rw (table_seen f) at z) (rw (table_seen f) at a) e

-- a word with as many codes as are read is refused by those, whatever follows
long_word : (f input listing : List ℕ) → read_codes ≤ length input → TranslationPrinted f (take read_codes input) listing → TranslationPrinted f input listing
long_word f input listing long p = go p
  where
    size : length (take read_codes input) ≡ read_codes
    size = length-take-le read_codes input long

    part : words.refusal_of (table_of f) (take read_codes input) ≡ word_too_long
    part = refusal_long (table_of f) (take read_codes input) (read_accepted f) (omega (arith, size))

    whole : words.refusal_of (table_of f) input ≡ word_too_long
    whole = refusal_long (table_of f) input (read_accepted f) (omega arith)

    go : TranslationPrinted f (take read_codes input) listing → TranslationPrinted f input listing
    go (TranslationPrinted.refused n e) = TranslationPrinted.refused n e
    go (TranslationPrinted.unfit t z e) = TranslationPrinted.unfit t (λ none. omega (arith, whole, none)) (e ∙ rw (part, whole))
    go (TranslationPrinted.unread t z k e) = absurd (omega (arith, part, z))
    go (TranslationPrinted.written t z a e) = absurd (omega (arith, part, z))

word_seen : (f input listing : List ℕ) → TranslationPrinted f (take read_codes input) listing → TranslationPrinted f input listing
word_seen f input listing p = go (leb read_codes (length input)) refl
  where
    go : (x : Bool) → leb read_codes (length input) ≡ x → TranslationPrinted f input listing
    go true e = long_word f input listing (leb-true read_codes (length input) e) p
    go false e = let short = leb-false read_codes (length input) e in rw (take_all read_codes input (omega arith)) at p

pub first_bytes : FirstBytes
first_bytes = record { verdict = verdict_seen; translation = λ f input listing p. word_seen f input listing (file_seen f (take read_codes input) listing p) }
