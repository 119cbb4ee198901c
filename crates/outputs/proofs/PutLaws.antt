-- What is copied behind a part of a buffer, and where two entries are the same. Assumes nothing.
use mathlib.Core.Path.{◌≡◌, refl, sym, ap, ◌∙◌}
use mathlib.Core.List.{List, [], ◌∷◌, ◌++◌}
use mathlib.Core.Bool.{Bool, true}
use mathlib.Core.Logic.{⊎_elim, ◌↔◌}
use Prim.Native.Nat.{ℕ, zero, suc, ◌+◌, ◌*◌, ◌-◌, ◌≤◌, ◌<◌}
use native.Mathlib.Omega.{arith}
use borrow.Rule.Slice.PartMut.{put_mid}
use lib.Dec.{eqb}
use Rattle.std.specs.List.{slice_range}
use Rattle.std.specs.Array.{IsFirstChunk}
use Rattle.std.specs.Option.{MatchOption, option_eq}
use Rattle.std.specs.Cmp.Lexicographic.{pointwise}
use Rattle.std.proofs.Common.{Option, Some, None, Bor}
use Rattle.std.proofs.lemmas.Bool.Decides.{Decides-eqb}
use Rattle.std.proofs.lemmas.Slice.Eq.{slice_eq-Decides}
use lib.ListN.{length, take, drop, get_or, length-drop}
use lib.Seq.{take-suc, take-take, take-append-add, take-append-le, take_all, length-take-le, get_or-drop, get_or-take, ext_get_or}
use Rattle.transducer.specs.Limits.{most_outputs}
use Rattle.transducer.specs.Transition.{firsts}
use Rattle.transducer.proofs.Bools.{le_or_lt}
use Rattle.transducer.proofs.LineLaws.{get_d_firsts}
use Rattle.product.specs.Numbers.{no_transition}
use Rattle.outputs.specs.Outputs.{entry, count_at, codes_at, Entries, Appends}
use Rattle.outputs.proofs.OutputLaws.{firsts_same, length_codes}

-- ---- copying

-- a part is put into a buffer behind its first p places: its first n values stand there
pub appends_copied : (before part : List ℕ) (p k n : ℕ) → p ≤ length before → n ≤ length part
    → Appends before p (take n part) (put_mid p k before part) (p + n)
appends_copied before part p k n room few =
    let long : length (take p before) ≡ p = length-take-le p before room in
    let rest = drop k (drop p before) in
    record {
      place = omega (arith, length-take-le n part few);
      front =
          ap (λ m. take (m + n) (take p before ++ (part ++ rest))) (sym long)
          ∙ take-append-add (take p before) (part ++ rest) n
          ∙ ap (λ (z : List ℕ). take p before ++ z) (take-append-le n part rest few);
    }

-- n values of a list, from the place p on
pub firsts_part : (list : List ℕ) (p n : ℕ) → p + n ≤ length list → firsts n (λ i. get_or list (p + i) 0) ≡ take n (drop p list)
unfolding firsts
firsts_part list p zero h = refl
firsts_part list p (suc n) h =
    ap (λ (z : List ℕ). z ++ (get_or list (p + n) 0 ∷ [])) (firsts_part list p n (omega arith))
    ∙ ap (λ k. take n (drop p list) ++ (k ∷ [])) (sym (get_or-drop p list n 0))
    ∙ sym (take-suc (drop p list) n 0 (omega (arith, length-drop p list)))

-- the codes of an entry are a part of the list
pub codes_part : {written : List ℕ} → Entries written → (l : ℕ) → l ≤ no_transition
    → codes_at written l ≡ take (count_at written l) (drop (l * entry + 1) written)
codes_part {written} o l low = firsts_part written (l * entry + 1) (count_at written l) (omega (arith, o.few l low, o.long))

-- they are the first of the places that are copied
pub appends_codes : {written : List ℕ} → Entries written → (l : ℕ) → l ≤ no_transition → {before part : List ℕ} {p : ℕ} (k : ℕ) → p ≤ length before
    → part ≡ slice_range written (l * entry + 1) (l * entry + entry) → Appends before p (codes_at written l) (put_mid p k before part) (p + count_at written l)
appends_codes {written} o l low {before} {part} {p} k room e =
    let few = o.few l low in
    let all = drop (l * entry + 1) written in
    let n : l * entry + entry - (l * entry + 1) ≡ most_outputs = omega arith in
    let is : part ≡ take most_outputs all = e ∙ ap (λ m. take m all) n in
    rw (codes_part o l low ∙ sym (take-take (count_at written l) most_outputs all few) ∙ ap (take (count_at written l)) (sym is))
    (appends_copied before part p k (count_at written l) room (omega (arith, ap length is, length-take-le most_outputs all (omega (arith, length-drop (l * entry + 1) written, o.long)))))

-- a value of a part of a list
pub part_place : (list : List ℕ) (p n i : ℕ) → i < n → get_or (slice_range list p (p + n)) i 0 ≡ get_or list (p + i) 0
part_place list p n i h = get_or-take (p + n - p) (drop p list) i 0 (omega arith) ∙ get_or-drop p list i 0

-- ---- comparing

-- the places of an entry
abbrev pub entry_at : List ℕ → ℕ → List ℕ
entry_at written l = slice_range written (l * entry) (l * entry + entry)

-- two entries have the same codes exactly where they agree at all places
pub same_exactly : {written : List ℕ} → Entries written → (l m : ℕ) → l ≤ no_transition → m ≤ no_transition
    → (entry_at written l ≡ entry_at written m) ↔ (codes_at written l ≡ codes_at written m)
same_exactly {written} o l m low low' = (there, back)
  where
    f : ℕ → ℕ
    f j = get_or written (l * entry + 1 + j) 0

    g : ℕ → ℕ
    g j = get_or written (m * entry + 1 + j) 0

    long : (k : ℕ) → k ≤ no_transition → length (entry_at written k) ≡ entry
    long k h = omega (arith, length-take-le (k * entry + entry - k * entry) (drop (k * entry) written) (omega (arith, length-drop (k * entry) written, o.long)))

    place : (k i p : ℕ) → i < entry → p ≡ k * entry + i → get_or (entry_at written k) i 0 ≡ get_or written p 0
    place k i p h e =
        get_or-take (k * entry + entry - k * entry) (drop (k * entry) written) i 0 (omega arith) ∙ get_or-drop (k * entry) written i 0
        ∙ ap (λ q. get_or written q 0) (sym e)

    there : entry_at written l ≡ entry_at written m → codes_at written l ≡ codes_at written m
    there e =
        let n : count_at written l ≡ count_at written m =
        sym (place l 0 (l * entry) (omega arith) (omega arith)) ∙ ap (λ w. get_or w 0 0) e ∙ place m 0 (m * entry) (omega arith) (omega arith)
        in
        firsts_same (count_at written l) f g
        (λ j k.
        let b : 1 + j < entry = omega (arith, o.few l low) in
        sym (place l (1 + j) (l * entry + 1 + j) b (omega arith)) ∙ ap (λ w. get_or w (1 + j) 0) e
        ∙ place m (1 + j) (m * entry + 1 + j) b (omega arith))
        ∙ ap (λ k. firsts k g) n

    -- the codes are the same at all places, since those beyond them hold 0
    code : codes_at written l ≡ codes_at written m → (j : ℕ) → j < most_outputs → f j ≡ g j
    code e j b =
        let n : count_at written l ≡ count_at written m = sym (length_codes written l) ∙ ap length e ∙ length_codes written m in
        ⊎_elim
        (λ (k : count_at written l ≤ j). o.clear l low j k b ∙ sym (o.clear m low' j (omega arith) b))
        (λ (k : j < count_at written l).
        sym (get_d_firsts (count_at written l) f 0 j k) ∙ ap (λ w. get_or w j 0) e ∙ get_d_firsts (count_at written m) g 0 j (omega arith))
        (le_or_lt (count_at written l) j)

    each : codes_at written l ≡ codes_at written m → (i : ℕ) → i < entry → get_or (entry_at written l) i 0 ≡ get_or (entry_at written m) i 0
    each e zero h =
        place l 0 (l * entry) h (omega arith) ∙ sym (length_codes written l) ∙ ap length e ∙ length_codes written m
        ∙ sym (place m 0 (m * entry) h (omega arith))
    each e (suc j) h =
        place l (suc j) (l * entry + 1 + j) h (omega arith) ∙ code e j (omega arith) ∙ sym (place m (suc j) (m * entry + 1 + j) h (omega arith))

    back : codes_at written l ≡ codes_at written m → entry_at written l ≡ entry_at written m
    back e =
        ext_get_or 0 (entry_at written l) (entry_at written m) (long l low ∙ sym (long m low')) (λ i h. each e i (omega (arith, long l low)))

-- an entry has so many places
entry_long : {written : List ℕ} → Entries written → (l : ℕ) → l ≤ no_transition → length (entry_at written l) ≡ entry
entry_long {written} o l low = omega (arith, length-take-le (l * entry + entry - l * entry) (drop (l * entry) written) (omega (arith, length-drop (l * entry) written, o.long)))

-- taken as an array it is whole
entry_chunk : {written : List ℕ} → Entries written → (l : ℕ) → l ≤ no_transition → {list : List ℕ} → IsFirstChunk (entry_at written l) list entry → list ≡ entry_at written l
entry_chunk {written} o l low p = p.same ∙ take_all entry (entry_at written l) (omega (arith, entry_long o l low))

-- two entries, taken as arrays
pub chunks_exactly : {written : List ℕ} → Entries written → (l m : ℕ) → l ≤ no_transition → m ≤ no_transition → (a b : Option (Bor (List ℕ))) → {r : Bool}
    → MatchOption a (length (entry_at written l) < entry) (λ x. IsFirstChunk (entry_at written l) x.now entry)
    → MatchOption b (length (entry_at written m) < entry) (λ y. IsFirstChunk (entry_at written m) y.now entry)
    → r ≡ option_eq (λ x y. pointwise eqb x.now y.now) a b → (r ≡ true) ↔ (codes_at written l ≡ codes_at written m)
chunks_exactly o l m low low' None b p q e = absurd (omega (arith, p, entry_long o l low))
chunks_exactly o l m low low' (Some x) None p q e = absurd (omega (arith, q, entry_long o m low'))
chunks_exactly o l m low low' (Some x) (Some y) {r} p q e =
    let d = slice_eq-Decides Decides-eqb x.now y.now r e in
    let s = same_exactly o l m low low' in
    let left = entry_chunk o l low p in
    let right = entry_chunk o m low' q in
    (λ h. s.0 (sym left ∙ d.0 h ∙ right), λ h. d.1 (left ∙ s.1 h ∙ sym right))
