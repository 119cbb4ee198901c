-- The search and the paths of the transducer: the search comes to the end of both words at a final state exactly when an accepting path reads the one and
-- writes the other. Assumes nothing.
use mathlib.Core.Path.{◌≡◌, refl, sym, ap, ◌∙◌}
use mathlib.Core.Bool.{false}
use mathlib.Core.List.{List, [], ◌∷◌, ◌++◌, append_assoc, append-nil, map-append, head-eq_of_cons-eq}
use mathlib.Core.Logic.{◌↔◌}
use Prim.Native.Nat.{ℕ, zero, suc, ◌+◌, ◌≤◌, ◌<◌}
use native.Mathlib.Omega.{arith}
use lib.ListN.{length, get_or, drop, length-append, length-drop, take-append-drop}
use lib.Seq.{drop-drop, drop-length, take-append_seam, drop-append_seam}
use Rattle.transducer.specs.StateSet.{In}
use Rattle.transducer.specs.Transition.{at, letter, written_by, word_of, output_word_of, bytes_of}
use Rattle.transducer.specs.Valid.{Valid}
use Rattle.transducer.specs.Paths.{Path, here, step, reads, writes, Relates}
use Rattle.transducer.specs.Walks.{Edge}
use Rattle.transducer.specs.declared.InputCode.{InputCode}
use Rattle.transducer.specs.declared.Transducer.{Transducer}
use Rattle.transducer.proofs.CodeLaws.{InRange, word_bytes, bytes_word}
use Rattle.transducer.proofs.PathLaws.{reads_append, writes_append, output_to_lem, path_join}
use Rattle.pathwords.proofs.WordLaws.{letter_code}
use Rattle.product.specs.Machine.{ImageOf}
use Rattle.product.proofs.ImageLaws.{edge_of, key_of_lem, leaves_of, to_of_lem}
use Rattle.outputs.specs.Outputs.{codes_at, OutputsOf, HeldAt}
use Rattle.outputs.proofs.OutputLaws.{length_codes}
use Rattle.wordsearch.proofs.MoveLaws.{length_word, word_cons}
use Rattle.wordrows.specs.Leads.{Leads}
use Rattle.wordtest.specs.Nodes.{Comes, Arrives}

-- ---- a word that stands in a list

-- what is left of the list where the word stands
held_cut : {list w : List ℕ} {p : ℕ} → HeldAt list p w → drop p list ≡ w ++ drop (p + length w) list
held_cut {list} {w} {p} h =
    sym (take-append-drop (length w) (drop p list)) ∙ rw (h.is, drop-drop (length w) p list)

-- a word that begins what is left of the list stands there
held_of : {list : List ℕ} {p : ℕ} (w rest : List ℕ) → p ≤ length list → drop p list ≡ w ++ rest → HeldAt list p w
held_of {list} {p} w rest low e =
    record {
      within = omega (arith, length-drop p list, ap length e, length-append w rest);
      is = rw e (take-append_seam w rest);
    }

module _ {t : Transducer} {m written : List ℕ} (valid : Valid t) (image : ImageOf t false m) (outputs : OutputsOf t written)
    (input output : List ℕ)
  where
    -- what the search does over them
    abbrev Comes' : ℕ → ℕ → ℕ → Type 0
    Comes' = Comes m written t.starts input output

    -- the codes that a transition of the machine writes are those of the transducer's
    codes_of_lem : {l p q : ℕ} → Edge t l p q → codes_at written l ≡ bytes_of (written_by (at t l))
    codes_of_lem {l} e = outputs.codes l (omega (arith, e.used, valid.few_transitions))

    -- ---- where the search comes, a path leads

    -- the transitions π lead from a start state to q, read what stands before i and write what stands before j
    record Spelled (i j q : ℕ) : Type 0 where
      π : List ℕ
      first : ℕ
      starts : In t.starts first
      path : Path t first π q
      read : reads t π ++ drop i (word_of input) ≡ word_of input
      wrote : bytes_of (writes t π) ++ drop j output ≡ output

    -- one transition more
    spelled_more : {i i' code j q l k p : ℕ} → Spelled i j q → Leads m written output code j q l k p
        → drop i (word_of input) ≡ letter code ++ drop i' (word_of input) → Spelled i' k p
    spelled_more {i} {i'} {code} {j} {q} {l} {k} {p} s x r =
        let e = edge_of image x.leaves in
        let Input-of = sym (key_of_lem image x.leaves) ∙ x.key in
        let place : k ≡ j + length (codes_at written l) = omega (arith, x.position, length_codes written l) in
        let cut : drop j output ≡ bytes_of (written_by (at t l)) ++ drop k output = rw (place, ← codes_of_lem e) (held_cut x.writes) in
        record {
          π = s.π ++ (l ∷ []);
          first = s.first;
          starts = s.starts;
          path = path_join s.path (step e.used e.source (here (e.target ∙ x.enters)));
          read = rw (reads_append t s.π (l ∷ []), Input-of) (simp (append_assoc, ← r) s.read);
          wrote = rw (writes_append t s.π (l ∷ [])) (simp (map-append, append_assoc, ← cut) s.wrote);
        }

    module _ (codes : InRange input) where
      comes_spelled : {i j q : ℕ} → Comes' i j q → Spelled i j q
      comes_spelled {q = q} (Comes.first z o a) =
          record { π = []; first = q; starts = a; path = here refl; read = rw z; wrote = rw o }
      comes_spelled (Comes.silent c x) = spelled_more (comes_spelled c) x refl
      comes_spelled (Comes.reading {i = i} e inside c x) =
          spelled_more (comes_spelled c) x
          (rw (e, letter_code (get_or input i 0) (λ z. omega (arith, (codes i inside).0))) (word_cons input i inside))

      -- where it comes to the end of both words in a final state, the path is accepting
      arrives_relates : Arrives m written t.starts t.finals input output → Relates t (word_of input) (output_word_of output)
      arrives_relates a = go refl (comes_spelled a.comes)
        where
          go : {i : ℕ} → i ≡ length input → Spelled i (length output) a.last → Relates t (word_of input) (output_word_of output)
          go e s =
              let bytes : bytes_of (writes t s.π) ≡ output = sym (append-nil _) ∙ rw (drop-length output) at s.wrote in
              record {
                π = s.π;
                accepting = record { first = s.first; last = a.last; starts = s.starts; path = s.path; ends = a.final };
                read = sym (append-nil _) ∙ rw (e ∙ sym (length_word input), drop-length (word_of input)) at s.read;
                written = output_to_lem t s.π a.last ∙ sym (word_bytes (writes t s.π)) ∙ ap output_word_of bytes;
              }

    -- ---- where a path leads, the search comes

    -- a path that reads and writes what is left leads on to the end of both words
    path_comes : {p q : ℕ} {π : List ℕ} → Path t p π q → {i j : ℕ} → Comes' i j p → i ≤ length input → j ≤ length output
        → drop i (word_of input) ≡ reads t π → drop j output ≡ bytes_of (writes t π) → Comes' (length input) (length output) q
    path_comes (here e) {i} {j} c a b r w =
        let x : i ≡ length input = omega (arith, length-drop i (word_of input), ap length r, length_word input) in
        let y : j ≡ length output = omega (arith, length-drop j output, ap length w) in
        rw (x, y, e) at c
    path_comes {p} {q} (step {l = l} {π = π} used source rest) {i} {j} c a b r w =
        go (at t l).input.0 refl r (λ i' c' a' r'. path_comes rest {i = i'} {j = k} c' a' h.within r' left)
      where
        word : List ℕ
        word = bytes_of (written_by (at t l))

        k : ℕ
        k = j + length word

        edge : Edge t l p (at t l).to
        edge = record { used = used; source = source; target = refl }

        cut : drop j output ≡ word ++ bytes_of (writes t π)
        cut = w ∙ map-append _ (written_by (at t l)) (writes t π)

        h : HeldAt output j word
        h = held_of word (bytes_of (writes t π)) b cut

        left : drop k output ≡ bytes_of (writes t π)
        left = sym (drop-drop (length word) j output) ∙ rw cut (drop-append_seam word (bytes_of (writes t π)))

        leads : (code : ℕ) → (at t l).input.0 ≡ code → Leads m written output code j p l k (at t l).to
        leads code e =
            let x = leaves_of image edge in
            record {
              leaves = x;
              key = key_of_lem image x ∙ e;
              enters = to_of_lem image edge;
              position = omega (arith, ap length (codes_of_lem edge), length_codes written l);
              writes = rw (codes_of_lem edge) h;
            }

        go : (code : ℕ) → (at t l).input.0 ≡ code → drop i (word_of input) ≡ letter (at t l).input.0 ++ reads t π
            → ((i' : ℕ) → Comes' i' k (at t l).to → i' ≤ length input → drop i' (word_of input) ≡ reads t π
            → Comes' (length input) (length output) q)
            → Comes' (length input) (length output) q
        go zero e r next = next i (Comes.silent c (leads 0 e)) a (rw e at r)
        go (suc n) e r next =
            let long = ap length r in
            let inside : i < length input = omega (arith, length-drop i (word_of input), length_word input, rw e at long) in
            let both = sym (word_cons input i inside) ∙ rw e at r in
            let code : get_or input i 0 ≡ suc n = ap (λ (x : InputCode). x.0) (head-eq_of_cons-eq both) in
            next (i + 1) (Comes.reading refl inside c (leads (get_or input i 0) (e ∙ sym code))) (omega arith) (ap (drop 1) both)

    -- so does an accepting path that reads the one word and writes the other
    relates_arrives : Relates t (word_of input) (output_word_of output) → Arrives m written t.starts t.finals input output
    relates_arrives r =
        let a = r.accepting in
        let bytes = ap bytes_of (sym r.written ∙ output_to_lem t r.π a.last) in
        record {
          last = a.last;
          comes =
              path_comes a.path (Comes.first refl refl a.starts) (omega arith) (omega arith) (sym r.read) (sym (bytes_word output) ∙ bytes);
          final = a.ends;
        }

    pub arrives_exactly : InRange input → Arrives m written t.starts t.finals input output ↔ Relates t (word_of input) (output_word_of output)
    arrives_exactly codes = (arrives_relates codes, relates_arrives)
