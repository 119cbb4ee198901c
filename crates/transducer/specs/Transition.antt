-- One transition: what it reads and what it writes (document 000, definition 3.5, and document 01, "Codes and tables").
use Rattle.std.specs.Prelude.{List, [], ◌∷◌, ◌++◌, map, ℕ, zero, suc, get_or}
use Rattle.transducer.specs.declared.InputCode.{InputCode}
use Rattle.transducer.specs.declared.OutputCode.{OutputCode}
use Rattle.transducer.specs.declared.Transition.{Transition}
use Rattle.transducer.specs.declared.Transducer.{Transducer}

-- words over the two alphabets (document 01: a cue, and an output)
abbrev pub InputWord : Type 0
InputWord = List InputCode

abbrev pub OutputWord : Type 0
OutputWord = List OutputCode

-- the input word whose codes are these numbers, as they stand in a buffer
abbrev pub word_of : List ℕ → InputWord
word_of numbers = map (λ (n : ℕ). record { 0 = n }) numbers

-- the output word whose codes are these numbers
abbrev pub output_word_of : List ℕ → OutputWord
output_word_of numbers = map (λ (n : ℕ). record { 0 = n }) numbers

-- the numbers of an output word's codes, as they stand in a buffer
abbrev pub bytes_of : OutputWord → List ℕ
bytes_of y = map (λ (c : OutputCode). c.0) y

-- an output code of one transducer as an input code of the next: the same number, read in the other alphabet (document 02, job 3)
abbrev pub as_input : OutputCode → InputCode
as_input c = record { 0 = c.0 }

-- an output word as an input word
abbrev pub as_inputs : OutputWord → InputWord
as_inputs y = map as_input y

-- what the code reads past the end of the transitions
abbrev pub outside : Transition
outside = record { from = 0; to = 0; input = record { 0 = 0 }; count = 0; output = [] }

-- transition number l
abbrev pub at : Transducer → ℕ → Transition
at t l = get_or t.transitions l outside

-- the output code at place j of a transition
abbrev pub output_at : Transition → ℕ → OutputCode
output_at v j = get_or v.output j (record { 0 = 0 })

-- f 0, f 1, .., f (n - 1)
unfoldable pub firsts : {A : Type 0} → ℕ → (ℕ → A) → List A
firsts zero f = []
firsts (suc n) f = firsts n f ++ (f n ∷ [])

-- the word that an input code reads: 0 means that nothing is read
abbrev pub letter : ℕ → InputWord
letter zero = []
letter (suc n) = record { 0 = suc n } ∷ []

-- what a transition reads
abbrev pub read_by : Transition → InputWord
read_by v = letter v.input.0

-- what a transition writes: its output codes, as many as its count says
abbrev pub written_by : Transition → OutputWord
written_by v = firsts v.count (output_at v)
