-- Document 01, "Messages": how codes and tones lie in blocks.
use Rattle.std.specs.Prelude.{Bool, ◌&&◌, List, ℕ, ◌+◌, ◌-◌, ◌*◌, ◌/◌, ◌%◌, leb, eqb, take, drop}

-- the most codes of a message
abbrev pub longest : ℕ
longest = 1024

-- the blocks that n codes take: ceil (n / b)
unfoldable pub block_count : ℕ → ℕ → ℕ
block_count b n = (n + (b - 1)) / b

-- block k is the 64 tones that begin at place 64 × k
abbrev pub block_at : List ℕ → ℕ → List ℕ
block_at tones k = take 64 (drop (64 * k) tones)

-- a message's count of tones: a multiple of 64, no more than limit codes take
abbrev pub is_whole : ℕ → ℕ → ℕ → Bool
is_whole limit b count = eqb (count % 64) 0 && leb count (64 * block_count b limit)
