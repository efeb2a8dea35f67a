-- What reading a sentence answers: bytes are matched with the pattern of each row. What this means is the law `Reading` of `sentence_laws`.
use Rattle.std.specs.Prelude.{Bool, true, false, cond, not, ◌&&◌, List, [], ◌∷◌, ℕ, suc, ◌+◌, ◌-◌, ◌*◌, max, leb, eqb, drop, Ok, Err}
use Rattle.text.specs.Decimal.{is_digit}
use Rattle.refusal.specs.declared.Reason.{Reason}
use Rattle.refusal.specs.declared.Refusal.{Refusal}
use Rattle.refusal.specs.Refused.{Answered, refused_at}
use Rattle.sentence.specs.Patterns.{place_mark, lead_mark, most_place, most_lead, is_empty}
use Rattle.sentence.specs.Sentences.{Row, sentences}

-- ---- a number at the front of bytes

-- how many bytes, and their number
pub record Scanned : Type 0 where
  pub count : ℕ
  pub value : ℕ

-- c is one more digit of a number up to limit, of which v is read if it is begun: nothing follows a 0 in front
unfoldable pub may_follow : ℕ → Bool → ℕ → ℕ → Bool
may_follow limit begun v c = is_digit c && leb (10 * v + (c - 48)) limit && not (begun && eqb v 0)

abbrev pub one_more : Scanned → Scanned
one_more s = record { count = suc s.count; value = s.value }

-- the digits at the front that go on the number of which v is read
unfoldable pub scan_from : ℕ → Bool → ℕ → List ℕ → Scanned
scan_from limit begun v [] = record { count = 0; value = v }
scan_from limit begun v (c ∷ cs) =
    cond (may_follow limit begun v c) (one_more (scan_from limit true (10 * v + (c - 48)) cs)) (record { count = 0; value = v })

-- ---- one byte of a pattern

unfoldable pub starts_with : ℕ → List ℕ → Bool
starts_with p [] = false
starts_with p (c ∷ cs) = eqb c p

-- the bytes at the front that p takes, none where it does not fit, and the number in them
unfoldable pub piece : ℕ → List ℕ → Scanned
piece p bytes =
    cond (eqb p place_mark) (scan_from most_place false 0 bytes)
    (cond (eqb p lead_mark) (scan_from most_lead false 0 bytes)
    (record { count = cond (starts_with p bytes) 1 0; value = 0 }))

-- ---- a pattern

-- how many bytes agree with a sentence of it, whether they are the whole of one, and the place and the lead in them, which the laws name
-- also where they are not the whole
pub record Match : Type 0 where
  pub shared : ℕ
  pub whole : Bool
  pub place : ℕ
  pub lead : ℕ

abbrev pub no_match : Match
no_match = record { shared = 0; whole = false; place = 0; lead = 0 }

-- a piece that fits, and a match of what follows it
abbrev pub joined : ℕ → Scanned → Match → Match
joined p s m = record {
  shared = s.count + m.shared;
  whole = m.whole;
  place = cond (eqb p place_mark) s.value m.place;
  lead = cond (eqb p lead_mark) s.value m.lead;
}

unfoldable pub with_piece : ℕ → Scanned → Match → Match
with_piece p s m = cond (eqb s.count 0) no_match (joined p s m)

unfoldable pub matched : List ℕ → List ℕ → Match
matched [] bytes = record { shared = 0; whole = is_empty bytes; place = 0; lead = 0 }
matched (p ∷ ps) bytes = with_piece p (piece p bytes) (matched ps (drop (piece p bytes).count bytes))

-- ---- the list

-- the refusal that bytes are of, where they are a whole sentence of a row
abbrev pub found : Row → List ℕ → Refusal
found r bytes = record { reason = r.reason; place = (matched r.pattern bytes).place; lead = (matched r.pattern bytes).lead }

-- the refusal of the first row that bytes are a sentence of; else 20 at the longest beginning, where rows before share best bytes
unfoldable pub read_from : List Row → ℕ → List ℕ → Answered Refusal
read_from [] best bytes = Err (refused_at Reason.Sentence best)
read_from (r ∷ rs) best bytes =
    cond (matched r.pattern bytes).whole
    (Ok (found r bytes))
    (read_from rs (max best (matched r.pattern bytes).shared) bytes)

unfoldable pub read_sentence : List ℕ → Answered Refusal
read_sentence bytes = read_from sentences 0 bytes
