-- The list of sentences: no two refusals have the same one, a sentence is read back, and bytes are read as what they mean.
use mathlib.Core.Path.{◌≡◌, refl, sym, ◌∙◌, ap}
use mathlib.Core.Bool.{true}
use mathlib.Core.List.{List}
use mathlib.Core.Logic.{◌⊎◌, inl, inr}
use Prim.Native.Nat.{ℕ, ◌<◌, ◌≤◌}
use native.Mathlib.Omega.{arith}
use lib.ListN.{length}
use Rattle.refusal.specs.declared.Refusal.{Refusal}
use Rattle.sentence.specs.Sentences.{sentences, sentence_in, is_known, sentence_of}
use Rattle.sentence.specs.Reading.{read_sentence}
use Rattle.sentence.proofs.Soundness.{sound}
use Rattle.sentence_laws.specs.Meaning.{Share, Longest, IsSentence, IsNone, Means}
use Rattle.sentence_laws.specs.Laws.{Distinct, Reading, ReadBack}
use Rattle.sentence_laws.proofs.Shared.{shared, share, shared_most}
use Rattle.sentence_laws.proofs.KnownRows.{Known, known, is_known_lem, some_known}
use Rattle.sentence_laws.proofs.RowReading.{sentence_read, read_sentence_lem}
use Rattle.sentence_laws.proofs.Farthest.{Reached, Farthest, refused_farthest}
use Rattle.std.proofs.Common.{Ok, Err}
use Rattle.refusal.specs.Refused.{Answered}

-- ---- a sentence is read back

pub back : (r : Refusal) → is_known r ≡ true → read_sentence (sentence_of r) ≡ Ok r
unfolding is_known sentence_of read_sentence
back r k = sentence_read sentences sound r (known sentences r k) 0 (sentence_in sentences r) refl

pub read_back : ReadBack
read_back = record { back = back }

apart : (r s : Refusal) → is_known r ≡ true → is_known s ≡ true → sentence_of r ≡ sentence_of s → r ≡ s
apart r s k j e = cc (back r k, back s j)

pub distinct : Distinct
distinct = record { apart = apart }

-- ---- the longest beginning

-- the list has a row: all else about it comes from its soundness
some_row : 0 < length sentences
unfolding sentences
some_row = omega arith

longest : (bytes : List ℕ) (q : Refusal) → Farthest sentences 0 bytes q → Longest bytes q.place
unfolding is_known sentence_of
longest bytes q f = record {
  reached = by f.reached;
  most = λ r k e s. omega (arith, f.most r (known sentences r e), shared_most k bytes (sentence_of r) s);
}
  where
    shares : (x : Refusal) → Known sentences x → shared bytes (sentence_in sentences x) ≡ q.place
        → (r : Refusal) × (is_known r ≡ true) × Share q.place bytes (sentence_of r)
    shares x k e = (x, is_known_lem sentences x k, rw e at (share bytes (sentence_in sentences x)))

    by : (q.place ≡ 0) ⊎ Reached sentences bytes q.place → (r : Refusal) × (is_known r ≡ true) × Share q.place bytes (sentence_of r)
    by (inl e) =
        let (x, k) = some_known sentences sound some_row in
        shares x k (omega (arith, f.most x k))
    by (inr (x, k, e)) = shares x k e

none_longer : (bytes : List ℕ) (m n : ℕ) → Longest bytes m → Longest bytes n → m ≤ n
none_longer bytes m n f g = let (r, k, s) = f.reached in g.most r m k s

-- ---- what bytes are read as

read_known : (bytes : List ℕ) (r : Refusal) → read_sentence bytes ≡ Ok r → IsSentence bytes r
unfolding is_known sentence_of read_sentence
read_known bytes r e =
    let (k, same) = read_sentence_lem sentences sound 0 bytes r e in
    record { known = is_known_lem sentences r k; same = same }

known_read : (bytes : List ℕ) (r : Refusal) → IsSentence bytes r → read_sentence bytes ≡ Ok r
known_read bytes r s = ap read_sentence s.same ∙ back r s.known

read_none : (bytes : List ℕ) (q : Refusal) → read_sentence bytes ≡ Err q → IsNone bytes q
unfolding read_sentence
read_none bytes q e =
    let f = refused_farthest sentences sound 0 bytes q e in
    record {
      none = λ r s. cc (known_read bytes r s);
      reason = f.reason;
      place = longest bytes q f;
      lead = f.lead;
    }

refused_once : (bytes : List ℕ) (p q : Refusal) → IsNone bytes p → IsNone bytes q → p ≡ q
refused_once bytes p q f g =
    let reason : p.reason ≡ q.reason = f.reason ∙ sym g.reason in
    let place : p.place ≡ q.place =
    omega (arith, none_longer bytes p.place q.place f.place g.place, none_longer bytes q.place p.place g.place f.place) in
    let lead : p.lead ≡ q.lead = f.lead ∙ sym g.lead in
    rw (reason, place, lead)

meant : (bytes : List ℕ) → Means bytes (read_sentence bytes)
meant bytes = by (read_sentence bytes) refl
  where
    by : (a : Answered Refusal) → read_sentence bytes ≡ a → Means bytes a
    by (Ok r) e = read_known bytes r e
    by (Err q) e = read_none bytes q e

only : (bytes : List ℕ) (a : Answered Refusal) → Means bytes a → a ≡ read_sentence bytes
only bytes (Ok r) s = sym (known_read bytes r s)
only bytes (Err q) s = by (read_sentence bytes) (meant bytes)
  where
    by : (a : Answered Refusal) → Means bytes a → Err q ≡ a
    by (Ok r) m = absurd (s.none r m)
    by (Err p) m = ap Err (refused_once bytes q p s m)

pub reading : Reading
reading = record { meant = meant; only = only }
