-- What `join` answers: its refusal, and the result (document 02, job 3).
use Rattle.std.specs.Prelude.{◌≡◌, Bool, true, cond, ◌&&◌, ◌↔◌, ℕ, eqb, leb, length, Result, Ok, Err}
use Rattle.transducer.specs.Limits.{most_states, most_transitions}
use Rattle.transducer.specs.Refusals.{invalid, more_than_one_code, many_pairs, many_transitions, number_of}
use Rattle.transducer.specs.Blank.{blank_transducer}
use Rattle.transducer.specs.Accepted.{accepted_of}
use Rattle.transducer.specs.declared.Transducer.{Transducer}
use Rattle.transducer.specs.declared.refusals.Refusal.{Refusal}
use Rattle.product.specs.Numbers.{first_of, second_of}
use Rattle.joints.specs.Joint.{one_code_of, JoinedPair}
use Rattle.series.specs.Result.{pairs, lines, result_of}

-- of the refusals 16, over most_states joined pairs, and 17, over most_transitions lines, the first whose reason holds; 0 where there is none
unfoldable pub size_refusal : Transducer → Transducer → (ℕ → Bool) → ℕ
size_refusal first second joined =
    cond (leb (length (pairs joined)) most_states)
    (cond (leb (length (lines first second joined)) most_transitions) 0 many_transitions)
    many_pairs

-- before them 8, either transducer is not accepted, and 15, a transition of the first writes more than one code
unfoldable pub refusal_of : Transducer → Transducer → (ℕ → Bool) → ℕ
refusal_of first second joined =
    cond (accepted_of first && accepted_of second) (cond (one_code_of first) (size_refusal first second joined) more_than_one_code) invalid

-- neither 8 nor 15
unfoldable pub joinable : Transducer → Transducer → Bool
joinable first second = accepted_of first && accepted_of second && one_code_of first

-- what the call hands over: the result, or with a refusal the blank transducer
abbrev pub joined_of : Result Transducer Refusal → Transducer
joined_of (Ok made) = made
joined_of (Err refusal) = blank_transducer

-- what `join` answers, by the set of the joined pairs: its refusal; and the result, or the blank transducer with a refusal. The set is determined
-- where it counts, and so the answer is (`joined_determined` of proofs/SeriesLaws.antt)
pub record JoinedOf (first second : Transducer) (r : Result Transducer Refusal) : Type 0 where
  pub joined : ℕ → Bool
  pub exactly : joinable first second ≡ true → (v : ℕ) → (joined v ≡ true) ↔ JoinedPair first second (first_of v) (second_of v)
  pub number : number_of r ≡ refusal_of first second joined
  pub table : joined_of r ≡ cond (eqb (refusal_of first second joined) 0) (result_of first second joined) blank_transducer
