-- What writing and reading a sentence answer with is below 2^32.
use mathlib.Core.Path.{◌≡◌, refl}
use mathlib.Core.Bool.{Bool, true, false, cond, not}
use mathlib.Core.List.{List}
use Prim.Native.Nat.{ℕ, ◌<◌, ◌^◌}
use native.Mathlib.Omega.{arith}
use lib.Dec.{ltb}
use lib.ListN.{length}
use Rattle.refusal.specs.declared.Refusal.{Refusal}
use Rattle.refusal.specs.Refused.{Answered, number_of, refused_at}
use Rattle.sentence.specs.Patterns.{filled, shows}
use Rattle.sentence.specs.Sentences.{sentences, pattern_in, is_known_in, sentence_in, is_known, sentence_of}
use Rattle.sentence.specs.Reading.{read_sentence}
use Rattle.sentence.specs.Writing.{write_pattern, write_sentence}
use Rattle.sentence.proofs.Sizes.{pattern_short, filled_short, written_carries, read_carries}
use Rattle.sentence_laws.specs.Meaning.{Means}
use Rattle.sentence_laws.proofs.KnownRows.{Known, shown, known}
use Rattle.sentence_laws.proofs.RowReading.{lead_small}
use Rattle.sentence_laws.proofs.Sentences.{reading}
use Rattle.std.proofs.Common.{Ok, Err}
use Rattle.refusal.specs.declared.Reason.{Reason}

shown_short : (n q l : ℕ) → shows (pattern_in sentences n) q l ≡ true → length (filled q l (pattern_in sentences n)) < 2 ^ 32
shown_short n q l e =
    let pattern = pattern_in sentences n in
    let p = shown pattern q l e in
    omega (arith, filled_short q l (omega (arith, p.place)) (omega (arith, lead_small pattern l p.lead)) pattern, pattern_short n)

-- ---- what writing answers

pub written_small : (n place lead room : ℕ) → written_carries (write_sentence n place lead room) < 2 ^ 32
unfolding write_sentence write_pattern
written_small n place lead room = by (shows pattern place lead) refl (ltb room (length text))
  where
    pattern : List ℕ
    pattern = pattern_in sentences n

    text : List ℕ
    text = filled place lead pattern

    by : (t : Bool) → shows pattern place lead ≡ t → (short : Bool)
        → written_carries (cond (not t) (Err (refused_at Reason.Sentence 0)) (cond short (Err (refused_at Reason.Room 0)) (Ok (length text)))) < 2 ^ 32
    by true k true = omega arith
    by true k false = shown_short n place lead k
    by false k short = omega arith

-- ---- what reading answers

known_shown : (r : Refusal) → is_known r ≡ true → Known sentences r
unfolding is_known
known_shown r k = known sentences r k

sentence_short : (r : Refusal) → is_known r ≡ true → length (sentence_of r) < 2 ^ 32
unfolding is_known is_known_in sentence_of sentence_in
sentence_short r k = shown_short (number_of r.reason) r.place r.lead k

means_small : (bytes : List ℕ) (a : Answered Refusal) → Means bytes a → read_carries a < 2 ^ 32
means_small bytes (Ok r) s = omega (arith, (known_shown r s.known).place)
means_small bytes (Err q) s =
    let (r, k, shares) = s.place.reached in
    omega (arith, shares.within_other, sentence_short r k)

pub read_small : (bytes : List ℕ) → read_carries (read_sentence bytes) < 2 ^ 32
read_small bytes = means_small bytes (read_sentence bytes) (reading.meant bytes)
