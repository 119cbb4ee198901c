-- How the search answers: at a node where an accepting path ends the parents lead back along one, and where no node found is such a node there
-- is no accepting path that reads the word.
use mathlib.Core.Path.{◌≡◌, sym, ap, ◌∙◌}
use mathlib.Core.Bool.{false}
use mathlib.Core.List.{List, append-nil}
use mathlib.Core.Logic.{⊎_elim}
use Prim.Native.Nat.{ℕ, ◌+◌, ◌*◌, ◌≤◌, ◌<◌}
use native.Mathlib.Omega.{arith}
use lib.ListN.{length, get_or, length-reverse}
use lib.Seq.{drop-length}
use Rattle.std.specs.Prelude.{Option, Some, None}
use Rattle.transducer.specs.Limits.{most_states}
use Rattle.transducer.specs.StateSet.{In}
use Rattle.transducer.specs.Transition.{OutputWord, word_of}
use Rattle.transducer.specs.Valid.{Valid}
use Rattle.transducer.specs.Paths.{Relates}
use Rattle.transducer.specs.declared.Transducer.{Transducer}
use Rattle.transducer.proofs.Facts.{in_below}
use Rattle.transducer.proofs.SizeLaws.{length_writes}
use Rattle.worklist.specs.Links.{way_from}
use Rattle.worklist.specs.Lists.{Worklist}
use Rattle.worklist.specs.Search.{Chain, Grown, Exact}
use Rattle.worklist.proofs.Findings.{lengths, at_most, found_has_place}
use Rattle.worklist.proofs.Chains.{way_is}
use Rattle.worklist.proofs.WayBack.{older, chain_of, trail}
use Rattle.product.specs.Machine.{ImageOf}
use Rattle.product.proofs.ImageLaws.{edge_of}
use Rattle.wordsearch.specs.Limits.{most_nodes}
use Rattle.wordsearch.specs.Nodes.{state_of, Leads, Ends, Ended}
use Rattle.wordsearch.specs.Answers.{Spells, Answered}
use Rattle.wordsearch.proofs.MoveLaws.{length_word}
use Rattle.wordsearch.proofs.PathsOfNodes.{trail_spells, trail_used, accepting_reaches}

module _ {t : Transducer} (valid : Valid t) {m : List ℕ} (image : ImageOf t false m) {input : List ℕ} {N : ℕ} where
  -- a place whose node ends an accepting path is an answer
  hit : {s : Worklist} {i : ℕ} → N ≤ most_nodes → Grown (In t.starts) (Leads m input) N s → i < s.count
      → Ends t.finals input (get_or s.order i 0) → Spells t N s (word_of input) i
  hit {s} {i} same g h e =
      let n = lengths g in
      let c = chain_of g h in
      let way = way_is c.2 (omega (arith, c.1, at_most g, n.parent)) in
      let chain : Chain s.parent s.via i (way_from s.parent s.via i) = rw way c.2 in
      let p = trail_spells image input (trail g h chain) in
      let short = ap length way in
      record {
        back =
            record {
              nodes = same;
              parents = n.parent;
              labels = n.via;
              inside = omega (arith, at_most g);
              older = λ k l. older g (omega arith);
            };
        traced =
            record {
              used = trail_used image input (trail g h chain);
              few = omega (arith, length_writes (λ l b. (valid.used l b).few_outputs) p.path, length-reverse (way_from s.parent s.via i), short, c.1, at_most g);
            };
        used = λ k l n. ⊎_elim (λ y. absurd (n y.0)) (λ y. (edge_of image y.3.leaves).used) (g.why k (omega arith));
        accepting = record { first = p.first; last = _; starts = p.starts; path = p.path; ends = e.final };
        read = sym (append-nil _) ∙ rw (e.position ∙ sym (length_word input), drop-length (word_of input)) at p.read;
      }

  -- where no place found has such a node, there is no accepting path
  miss : {s : Worklist} → Exact (In t.starts) (Leads m input) N s
      → ((i : ℕ) → i < s.count → Ends t.finals input (get_or s.order i 0) → ⊥)
      → (y : OutputWord) → Relates t (word_of input) y → ⊥
  miss x none y r =
      let a = r.accepting in
      let small = in_below t.finals a.last a.ends in
      let k = accepting_reaches image input valid a r.read in
      let i = found_has_place x.grown (x.complete k.0 _ k.1) in
      let same : state_of (length (word_of input) * most_states + a.last) ≡ a.last = omega arith in
      none i.0 i.1 (rw i.2 (record { position = omega (arith, length_word input); final = rw same a.ends }))

-- however the search ends, that is an answer
pub answered : {t : Transducer} (valid : Valid t) {m : List ℕ} (image : ImageOf t false m) (input : List ℕ) {N : ℕ} (s : Worklist) (r : Option ℕ)
    → N ≤ most_nodes → Ended m input t.starts t.finals N s r → Answered t N s (word_of input) r
answered valid image input s (Some place) same met = hit valid image same met.search met.taken met.ends
answered valid image input s None same missed = miss valid image missed.exact missed.none
