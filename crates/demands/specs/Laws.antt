-- The laws of a block. Each is the promise of the function of the same name in src/laws.rt.
use Rattle.std.specs.Prelude.{◌≡◌, cond, ◌≢◌, List, ℕ, ◌-◌, ◌*◌, ◌%◌, ◌<◌, ◌≤◌, ◌^◌, leb, eqb, pos, nat_abs, length, take, Ok}
use Rattle.lists.specs.Lists.{tab, num, over}
use Rattle.refusal.specs.Checks.{IsSet}
use Rattle.walsh.specs.Words.{signed, corr}
use Rattle.decision.specs.declared.Character.{Character}
use Rattle.chain.specs.Chain.{missing_mark}
use Rattle.tone_range.specs.Range.{HasTones}
use Rattle.block_encoder.specs.Encoding.{IsText, encode_block, encoded_into, on_air}
use Rattle.block_decoder.specs.Decoding.{plain, symbols_of, count_in, character_at, lead_in, padded, decode_block, decoded_into}
use Rattle.block_decoder.specs.declared.BlockDecoded.{BlockDecoded}
use Rattle.demands.specs.Demand.{Gives, RefusesAsUnclear}

-- ---- what is sent

-- what goes on the air for a text, by way of an output
unfoldable pub air : ℕ → List ℕ → List ℕ → List ℕ
air b text tones = on_air (encode_block b text (length tones)) (encoded_into b text tones)

-- tones of the mode, and no missing mark among them
pub record AreSent (b : ℕ) (tones : List ℕ) : Type 0 where
  pub below : (t : ℕ) → t < length tones → num tones t < 2 ^ b
  pub no_mark : (t : ℕ) → t < length tones → num tones t ≢ missing_mark

-- No mark is sent, whatever is handed to the encoder.
pub record NoMark : Type 0 where
  pub sent : (b : ℕ) (text tones : List ℕ) → AreSent b (air b text tones)

-- the record of a code that is heard undamaged: all 64 symbols speak for its word, or all against it, and for any other word as many as against
abbrev pub undamaged : ℕ → Character
undamaged v = record {
  code = v;
  lead = 64;
  word = v % 64;
  correlation = signed (leb 64 v) (pos 64);
  next = cond (eqb (v % 64) 0) 1 0;
  next_correlation = pos 0;
}

-- A text encoded and decoded, into outputs long enough and at any m, comes back with every lead 64.
pub record ComesBack (b m : ℕ) (text tones out : List ℕ) : Type 0 where
  pub sent : encode_block b text (length tones) ≡ Ok 64
  pub given : Gives b text (decode_block b m (air b text tones) (length out)) out (decoded_into b m (air b text tones) out)
  pub characters : (decode_block b m (air b text tones) (length out)).characters ≡ padded (tab (λ q. undamaged (num text q)) b)

pub record RoundTrip : Type 0 where
  pub back : (b m : ℕ) (text tones out : List ℕ) → IsSet b m → IsText b text → 64 ≤ length tones → b ≤ length out → ComesBack b m text tones out

-- ---- what is heard

-- Correlations of the characters in any tones are from -64 to 64, and leads at most 64.
pub record Range : Type 0 where
  pub correlations : (b : ℕ) (tones : List ℕ) (q c : ℕ) → nat_abs (corr (count_in b (symbols_of tones) plain q) c) ≤ 64
  pub leads : (b : ℕ) (tones : List ℕ) (q : ℕ) → (character_at b tones q).lead ≤ 64

-- clean: the lead of every character is 64, here of the first n
pub record AreClean (n : ℕ) (characters : List Character) : Type 0 where
  pub leads : (i : ℕ) → i < n → lead_in characters i ≡ 64

-- Accepted clean tones encode back to themselves.
pub record CleanBack (b m : ℕ) (tones codes sent : List ℕ) : Type 0 where
  pub answer : encode_block b (take b (decoded_into b m tones codes)) (length sent) ≡ Ok 64
  pub written : encoded_into b (take b (decoded_into b m tones codes)) sent ≡ over tones sent

pub record Clean : Type 0 where
  pub back : (b m : ℕ) (tones codes sent : List ℕ)
      → (decode_block b m tones (length codes)).answer ≡ Ok b
      → AreClean b (decode_block b m tones (length codes)).characters
      → 64 ≤ length sent
      → CleanBack b m tones codes sent

-- A block that breaks no limit is refused as unclear precisely when some character's lead is under m.
pub record Precisely (b m : ℕ) (d : BlockDecoded) (out out' : List ℕ) : Type 0 where
  pub unclear : (q : ℕ) → q < b → lead_in d.characters q < m → RefusesAsUnclear b m d out out'
  pub clear : ((q : ℕ) → q < b → m ≤ lead_in d.characters q) → d.answer ≡ Ok b

pub record Clear : Type 0 where
  pub precisely : (b m : ℕ) (tones codes : List ℕ) → IsSet b m → HasTones (2 ^ b) tones → b ≤ length codes
      → Precisely b m (decode_block b m tones (length codes)) codes (decoded_into b m tones codes)

-- Leads are even, so m = 2k - 1 acts as m = 2k.
pub record OddLeads : Type 0 where
  pub even : (b k : ℕ) (tones : List ℕ) (room : ℕ) → decode_block b (2 * k - 1) tones room ≡ decode_block b (2 * k) tones room
