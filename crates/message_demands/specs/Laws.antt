-- The laws of a message of at most limit codes. Each is the promise of the function of the same name in src/laws.rt.
use Rattle.std.specs.Prelude.{◌≡◌, List, true, ◌⊎◌, ℕ, ◌+◌, ◌-◌, ◌*◌, ◌/◌, ◌<◌, ◌≤◌, ◌^◌, length, take, Ok, Err}
use Rattle.lists.specs.Lists.{joined, num, over}
use Rattle.refusal.specs.Checks.{IsSet}
use Rattle.refusal.specs.Refused.{unclear_at}
use Rattle.refusal.specs.declared.Refusal.{Refusal}
use Rattle.chain.specs.Chain.{missing_mark, tones_of}
use Rattle.block_encoder.specs.Encoding.{on_air}
use Rattle.block_decoder.specs.Decoding.{lead_in, decode_block, heard_into, decoded_into}
use Rattle.block_decoder.specs.declared.BlockDecoded.{BlockDecoded}
use Rattle.demands.specs.Laws.{AreSent, AreClean}
use Rattle.delivery.specs.Delivery.{delivery}
use Rattle.message_encoder.specs.Blocks.{block_count, block_at, is_whole}
use Rattle.message_encoder.specs.Encoding.{block_codes, encode_message, message_encoded_into}
use Rattle.message_decoder.specs.Decoding.{message_characters, decode_message, message_decoded_into}

-- ---- what is sent

-- The encoder's tones for block k are the block's tones for its b codes.
pub record BlockTones : Type 0 where
  pub each : (limit b : ℕ) (text tones : List ℕ) (n k : ℕ) → encode_message limit b text (length tones) ≡ Ok n → k < block_count b (length text)
      → block_at (message_encoded_into limit b text tones) k ≡ tones_of b (block_codes b text k)

-- what goes on the air for a text, by way of an output
abbrev pub message_air : ℕ → ℕ → List ℕ → List ℕ → List ℕ
message_air limit b text tones = on_air (encode_message limit b text (length tones)) (message_encoded_into limit b text tones)

-- No mark is sent, whatever is handed to the encoder.
pub record NoMark : Type 0 where
  pub sent : (limit b : ℕ) (text tones : List ℕ) → AreSent b (message_air limit b text tones)

-- a message is 0 to limit codes from 1 to 127
pub record IsMessage (limit : ℕ) (text : List ℕ) : Type 0 where
  pub count : length text ≤ limit
  pub low : (i : ℕ) → i < length text → 1 ≤ num text i
  pub high : (i : ℕ) → i < length text → num text i ≤ 127

-- A text encoded and decoded, into outputs long enough and at any m, comes back.
pub record ComesBack (limit b m : ℕ) (text tones out : List ℕ) : Type 0 where
  pub sent : encode_message limit b text (length tones) ≡ Ok (64 * block_count b (length text))
  pub answer : decode_message limit b m (message_air limit b text tones) (length out) ≡ Ok (length text)
  pub written : message_decoded_into limit b m (message_air limit b text tones) out ≡ over text out

pub record RoundTrip : Type 0 where
  pub back : (limit b m : ℕ) (text tones out : List ℕ) → IsSet b m → IsMessage limit text
      → 64 * block_count b (length text) ≤ length tones → block_count b (length text) * b ≤ length out
      → ComesBack limit b m text tones out

-- ---- what is heard

-- the text of n codes that decoding writes
abbrev pub text_heard : ℕ → ℕ → ℕ → ℕ → List ℕ → List ℕ → List ℕ
text_heard limit b m n tones out = take n (message_decoded_into limit b m tones out)

-- Accepted clean tones encode back to themselves.
pub record CleanBack (limit b m n : ℕ) (tones out sent : List ℕ) : Type 0 where
  pub answer : encode_message limit b (text_heard limit b m n tones out) (length sent) ≡ Ok (length tones)
  pub written : message_encoded_into limit b (text_heard limit b m n tones out) sent ≡ over tones sent

pub record Clean : Type 0 where
  pub back : (limit b m n : ℕ) (tones out sent : List ℕ) → decode_message limit b m tones (length out) ≡ Ok n
      → AreClean (length (message_characters b tones)) (message_characters b tones)
      → length tones ≤ length sent
      → CleanBack limit b m n tones out sent

-- tones that break no limit: a message of them passes the checks 1, 2, 7, 9 and 8
pub record BreaksNoLimit (limit b m : ℕ) (tones out : List ℕ) : Type 0 where
  pub settings : IsSet b m
  pub whole : is_whole limit b (length tones) ≡ true
  pub room : length tones / 64 * b ≤ length out
  pub each : (t : ℕ) → t < length tones → (num tones t < 2 ^ b) ⊎ (num tones t ≡ missing_mark)

-- block k, decoded by itself into an output of its own
abbrev pub block_heard : ℕ → ℕ → List ℕ → List ℕ → ℕ → BlockDecoded
block_heard b m tones own k = decode_block b m (block_at tones k) (length own)

-- the b codes that this writes
abbrev pub block_text : ℕ → ℕ → List ℕ → List ℕ → ℕ → List ℕ
block_text b m tones own k = take b (decoded_into b m (block_at tones k) own)

-- the lead that it tells of character q
abbrev pub lead_heard : ℕ → ℕ → List ℕ → List ℕ → ℕ → ℕ → ℕ
lead_heard b m tones own k q = lead_in (block_heard b m tones own k).characters q

-- A message is unclear where its first unclear block is, with the lead that this block tells; if every block is clear, its codes are, block
-- after block, what each block writes.
module _ (limit b m : ℕ) (tones out own : List ℕ) where
  pub record ByBlocks : Type 0 where
    pub unclear : (k : ℕ) (r : Refusal) → k < length tones / 64 → ((j : ℕ) → j < k → (block_heard b m tones own j).answer ≡ Ok b)
        → (block_heard b m tones own k).answer ≡ Err r
        → decode_message limit b m tones (length out) ≡ Err (unclear_at (k * b + r.place) r.lead)
    pub clear : ((k : ℕ) → k < length tones / 64 → (block_heard b m tones own k).answer ≡ Ok b)
        → decode_message limit b m tones (length out) ≡ delivery limit b (joined (block_text b m tones own) (length tones / 64))
    pub written : ((k : ℕ) → k < length tones / 64 → (block_heard b m tones own k).answer ≡ Ok b)
        → message_decoded_into limit b m tones out
        ≡ heard_into (decode_message limit b m tones (length out)) (joined (block_text b m tones own) (length tones / 64)) out

pub record BlocksHeard : Type 0 where
  pub by_blocks : (limit b m : ℕ) (tones out own : List ℕ) → BreaksNoLimit limit b m tones out → b ≤ length own → ByBlocks limit b m tones out own

-- to refuse as unclear is 10, with the lead of the lowest unclear character and its place from the text's start, and nothing written
pub record RefusesAsUnclear (limit b m : ℕ) (tones out own : List ℕ) : Type 0 where
  pub block : ℕ
  pub place : ℕ
  pub block_inside : block < length tones / 64
  pub place_inside : place < b
  pub refused : decode_message limit b m tones (length out) ≡ Err (unclear_at (block * b + place) (lead_heard b m tones own block place))
  pub unclear : lead_heard b m tones own block place < m
  pub lowest : (k q : ℕ) → q < b → k * b + q < block * b + place → m ≤ lead_heard b m tones own k q
  pub kept : message_decoded_into limit b m tones out ≡ out

-- A message that breaks no limit is refused as unclear precisely when some character's lead is under m.
module _ (limit b m : ℕ) (tones out own : List ℕ) where
  pub record Precisely : Type 0 where
    pub unclear : (k q : ℕ) → k < length tones / 64 → q < b → lead_heard b m tones own k q < m → RefusesAsUnclear limit b m tones out own
    pub clear : ((k q : ℕ) → k < length tones / 64 → q < b → m ≤ lead_heard b m tones own k q)
        → decode_message limit b m tones (length out) ≡ delivery limit b (joined (block_text b m tones own) (length tones / 64))

pub record Clear : Type 0 where
  pub precisely : (limit b m : ℕ) (tones out own : List ℕ) → BreaksNoLimit limit b m tones out → b ≤ length own → Precisely limit b m tones out own

-- Leads are even, so m = 2k - 1 acts as m = 2k.
pub record OddLeads : Type 0 where
  pub even : (limit b k : ℕ) (tones : List ℕ) (room : ℕ) → decode_message limit b (2 * k - 1) tones room ≡ decode_message limit b (2 * k) tones room

-- A message heard at m and at a greater m': answer and output are the same, or the answer is a refusal as unclear. A text at m' is the text at
-- m, and what is unclear at m is unclear at m'.
pub record Stays (limit b m m' : ℕ) (tones out : List ℕ) : Type 0 where
  pub answer : decode_message limit b m' tones (length out) ≡ decode_message limit b m tones (length out)
  pub output : message_decoded_into limit b m' tones out ≡ message_decoded_into limit b m tones out

pub record Raised (limit b m m' : ℕ) (tones out own : List ℕ) : Type 0 where
  pub either : Stays limit b m m' tones out ⊎ RefusesAsUnclear limit b m' tones out own
  pub same_text : (n : ℕ) → decode_message limit b m' tones (length out) ≡ Ok n → Stays limit b m m' tones out
  pub still_unclear : RefusesAsUnclear limit b m tones out own → RefusesAsUnclear limit b m' tones out own

-- Raising m within its range leaves the answer to a message and its output as they are, or turns the answer into a refusal as unclear.
pub record RaisedLead : Type 0 where
  pub raised : (limit b m m' : ℕ) (tones out own : List ℕ) → 1 ≤ m → m ≤ m' → m' ≤ 64 → b ≤ length own → Raised limit b m m' tones out own
