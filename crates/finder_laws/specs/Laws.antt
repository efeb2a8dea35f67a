-- The laws of finding a block: document 02, orders 1 and 13. Each is the promise of the function of the same name in src/laws.rt.
use Rattle.std.specs.Prelude.{true, List, ◌≡◌, ℕ, ◌+◌, ◌*◌, ◌<◌, ◌≤◌, ◌^◌, length, Ok, Err}
use Rattle.lists.specs.Lists.{over}
use Rattle.refusal.specs.Refused.{refused_at}
use Rattle.refusal.specs.Checks.{IsSet}
use Rattle.chain.specs.Chain.{tones_of}
use Rattle.tone_range.specs.Range.{first_bad_tone}
use Rattle.block_encoder.specs.Encoding.{IsText}
use Rattle.block_decoder.specs.Decoding.{decode_block, decoded_into}
use Rattle.search.specs.Starts.{stretch_at, starts}
use Rattle.finder.specs.Finding.{is_run, find_block, found_into}
use Rattle.demands.specs.Demand.{missing_in, replaced_in, RefusesAsUnclear}
use Rattle.refusal.specs.declared.Reason.{Reason}

-- ---- what is found

-- the 64 tones from a start on are refused as unclear
abbrev pub UnclearAt : ℕ → ℕ → List ℕ → List ℕ → ℕ → Type 0
UnclearAt b m run codes start = RefusesAsUnclear b m (decode_block b m (stretch_at run start) (length codes)) codes (decoded_into b m (stretch_at run start) codes)

-- decoding the stretch accepts it, with the same records and the same output; and every earlier start is unclear
pub record Earliest (b m : ℕ) (run codes : List ℕ) (start : ℕ) : Type 0 where
  pub inside : start + 64 ≤ length run
  pub accepted : (decode_block b m (stretch_at run start) (length codes)).answer ≡ Ok b
  pub records : (decode_block b m (stretch_at run start) (length codes)).characters ≡ (find_block b m run (length codes)).characters
  pub output : decoded_into b m (stretch_at run start) codes ≡ found_into b m run codes
  pub earlier : (k : ℕ) → k < start → UnclearAt b m run codes k

-- The start found is the first that is accepted; and where none is, every start is unclear.
pub record FirstBlock : Type 0 where
  pub found : (b m : ℕ) (run codes : List ℕ) (start : ℕ) → (find_block b m run (length codes)).answer ≡ Ok start → Earliest b m run codes start
  pub none : (b m : ℕ) (run codes : List ℕ) → (find_block b m run (length codes)).answer ≡ Err (refused_at Reason.NotFound 0)
      → (start : ℕ) → start < starts run → UnclearAt b m run codes start

-- ---- a block that was sent

-- a run of 64 to 4,096 tones of the mode, some of them missing, and long enough an output
pub record RunCovered (b m : ℕ) (text run codes : List ℕ) : Type 0 where
  pub settings : IsSet b m
  pub sent : IsText b text
  pub count : is_run run ≡ true
  pub tones : length run ≤ first_bad_tone (2 ^ b) run
  pub room : b ≤ length codes

-- the start found is s or an earlier one
pub record FoundBy (b m : ℕ) (run codes : List ℕ) (s : ℕ) : Type 0 where
  pub start : ℕ
  pub found : (find_block b m run (length codes)).answer ≡ Ok start
  pub by : start ≤ s

-- A block sent and heard from place s of a run on, with u tones missing and r replaced: within demand 3's first bound it is found at s or before,
-- and within the second, if the start found is s, then with its text.
pub record FindsSent (b m : ℕ) (text run codes : List ℕ) (s u r : ℕ) : Type 0 where
  pub found : m + 2 * u + 4 * r ≤ 64 → FoundBy b m run codes s
  pub own_text : 2 * u + 4 * r < 64 + m → (find_block b m run (length codes)).answer ≡ Ok s → found_into b m run codes ≡ over text codes

pub record SentBlock : Type 0 where
  pub finds : (b m : ℕ) (text run codes : List ℕ) (s : ℕ) → RunCovered b m text run codes → s + 64 ≤ length run
      → FindsSent b m text run codes s (missing_in (stretch_at run s)) (replaced_in (tones_of b text) (stretch_at run s))

-- ---- a raised m

-- With a smaller m the start found is the same or an earlier one; and where none is found, none is with a greater m.
pub record RaisedLead : Type 0 where
  pub found : (b m m' : ℕ) (run codes : List ℕ) (start : ℕ) → 1 ≤ m → m ≤ m' → m' ≤ 64
      → (find_block b m' run (length codes)).answer ≡ Ok start → FoundBy b m run codes start
  pub none : (b m m' : ℕ) (run codes : List ℕ) → 1 ≤ m → m ≤ m' → m' ≤ 64
      → (find_block b m run (length codes)).answer ≡ Err (refused_at Reason.NotFound 0) → (find_block b m' run (length codes)).answer ≡ Err (refused_at Reason.NotFound 0)
