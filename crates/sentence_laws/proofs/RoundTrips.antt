-- A sentence that was written is read back.
use mathlib.Core.Path.{◌≡◌, refl, ◌∙◌, ap}
use mathlib.Core.Bool.{Bool, true, false, cond, not}
use mathlib.Core.List.{List}
use Prim.Native.Nat.{ℕ}
use Rattle.std.proofs.Common.{Ok, Err}
use lib.Dec.{ltb}
use lib.ListN.{length, take}
use Rattle.lists.proofs.Fronts.{take_over}
use Rattle.refusal.specs.declared.Reason.{Reason}
use Rattle.refusal.specs.declared.Refusal.{Refusal}
use Rattle.refusal.specs.Refused.{Answered, number_of, refused_at}
use Rattle.refusal.specs.Reasons.{reason_of}
use Rattle.refusal.proofs.Numbers.{number_back}
use Rattle.sentence.specs.Patterns.{filled, shows}
use Rattle.sentence.specs.Sentences.{sentences, pattern_in, is_known_in, sentence_in, is_known, sentence_of}
use Rattle.sentence.specs.Reading.{read_sentence}
use Rattle.sentence.specs.Writing.{write_pattern, text_into, pattern_into, write_sentence, sentence_into}
use Rattle.sentence_laws.specs.Laws.{RoundTrip}
use Rattle.sentence_laws.proofs.Sentences.{back}

-- a length is answered only where the pattern shows place and lead, and it is the text's
written_known : (text : List ℕ) (n : ℕ) (known short : Bool)
    → cond (not known) (Err (refused_at Reason.Sentence 0)) (cond short (Err (refused_at Reason.Room 0)) (Ok (length text))) ≡ Ok n
    → (known ≡ true) × (length text ≡ n)
written_known text n true true e = absurd cc
written_known text n true false e = (refl, cc)
written_known text n false short e = absurd cc

module _ (n place lead : ℕ) (out : List ℕ) (size : ℕ) (e : write_sentence n place lead (length out) ≡ Ok size) where
  abbrev pattern : List ℕ
  pattern = pattern_in sentences n

  abbrev text : List ℕ
  text = filled place lead pattern

  known_length : (shows pattern place lead ≡ true) × (length text ≡ size)
  unfolding write_sentence write_pattern
  known_length = written_known text size (shows pattern place lead) (ltb (length out) (length text)) e

  written_text : take size (sentence_into n place lead out) ≡ text
  unfolding write_sentence sentence_into pattern_into text_into
  written_text = ap (λ (a : Answered ℕ). take size (text_into a text out)) e ∙ take_over text out size known_length.1

  module _ (reason : Reason) (numbered : number_of reason ≡ n) where
    abbrev r : Refusal
    r = record { reason = reason; place = place; lead = lead }

    is_known_here : is_known r ≡ true
    unfolding is_known is_known_in
    is_known_here = rw numbered known_length.0

    own_text : text ≡ sentence_of r
    unfolding sentence_of sentence_in
    own_text = rw numbered

    read_back : read_sentence (take size (sentence_into n place lead out)) ≡ Ok r
    read_back = ap read_sentence (written_text ∙ own_text) ∙ back r is_known_here

  written_back : (reason : Reason) × (number_of reason ≡ n)
      × (read_sentence (take size (sentence_into n place lead out)) ≡ Ok (record { reason = reason; place = place; lead = lead }))
  written_back = (reason_of n, number_back n, read_back (reason_of n) (number_back n))

pub round_trip : RoundTrip
round_trip = record { back = written_back }
