-- What bytes are read as, said without a computation. "Any sentence of the list" is that of every known refusal: every number of the list with
-- every place and lead in range.
use Rattle.std.specs.Prelude.{true, List, ◌≡◌, ℕ, ◌≤◌, length, take, Ok, Err}
use Rattle.refusal.specs.declared.Reason.{Reason}
use Rattle.refusal.specs.declared.Refusal.{Refusal}
use Rattle.refusal.specs.Refused.{Answered}
use Rattle.sentence.specs.Sentences.{is_known, sentence_of}

-- the first n bytes of one text are the first n of the other
pub record Share (n : ℕ) (x y : List ℕ) : Type 0 where
  pub within : n ≤ length x
  pub within_other : n ≤ length y
  pub same : take n x ≡ take n y

-- n is the length of the longest beginning that bytes share with any sentence: some sentence shares so many, and none shares more
pub record Longest (bytes : List ℕ) (n : ℕ) : Type 0 where
  pub reached : (r : Refusal) × (is_known r ≡ true) × Share n bytes (sentence_of r)
  pub most : (r : Refusal) (k : ℕ) → is_known r ≡ true → Share k bytes (sentence_of r) → k ≤ n

-- bytes that are the sentence of r
pub record IsSentence (bytes : List ℕ) (r : Refusal) : Type 0 where
  pub known : is_known r ≡ true
  pub same : bytes ≡ sentence_of r

-- bytes that are no sentence, and what they are refused with
pub record IsNone (bytes : List ℕ) (q : Refusal) : Type 0 where
  pub none : (r : Refusal) → IsSentence bytes r → ⊥
  pub reason : q.reason ≡ Reason.Sentence
  pub place : Longest bytes q.place
  pub lead : q.lead ≡ 0

-- what an answer says of bytes
abbrev pub Means : List ℕ → Answered Refusal → Type 0
Means bytes (Ok r) = IsSentence bytes r
Means bytes (Err q) = IsNone bytes q
