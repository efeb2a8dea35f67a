-- Document 01, "Sending a block": one definition for each rule, in its order.
use Rattle.std.specs.Prelude.{Bool, cond, not, List, ℕ, ◌+◌, ◌-◌, ◌*◌, ◌/◌, ◌%◌, ◌^◌, ltb}
use Rattle.std.specs.Int.Bits.{bit_xor}
use Rattle.lists.specs.Lists.{tab, num}
use Rattle.lists.specs.Sums.{total}
use Rattle.walsh.specs.Words.{odd, minus, turned}

-- the mark of a missing tone, which may stand only in tones to be decoded
abbrev pub missing_mark : ℕ
missing_mark = 65535

-- bit i of n; bit 0 weighs 1
abbrev pub bit : ℕ → ℕ → Bool
bit n i = odd (n / 2 ^ i)

-- the bit of code v at t: below 64 that of word v, from 64 up that of word v - 64 with every sign turned; a minus is bit 1
unfoldable pub code_bit : ℕ → ℕ → Bool
code_bit v t = cond (ltb v 64) (minus v t) (not (minus (v - 64) t))

-- the scrambling key, hexadecimal E257E6D0291574EC
abbrev pub key : ℕ
key = 0xE257E6D0291574EC

-- the key bit of character q at t: the key is turned right by 13 for each character
unfoldable pub key_bit : ℕ → ℕ → Bool
key_bit q t = bit key ((13 * q + t) % 64)

-- the bit that character q, of code v, sends at t: XOR with the key bit turns it where that is 1
unfoldable pub sent_bit : ℕ → ℕ → ℕ → Bool
sent_bit q v t = turned (key_bit q t) (code_bit v t)

-- what character q adds to symbol t: its bit becomes bit (q + t) mod b
unfoldable pub value_at : ℕ → List ℕ → ℕ → ℕ → ℕ
value_at b codes t q = cond (sent_bit q (num codes q) t) (2 ^ ((q + t) % b)) 0

-- symbol t of the b codes
unfoldable pub symbol_at : ℕ → List ℕ → ℕ → ℕ
symbol_at b codes t = total b (value_at b codes t)

-- the Gray code of a symbol: symbol XOR (symbol shifted right by one)
unfoldable pub gray : ℕ → ℕ
gray s = bit_xor s (s / 2)

-- tone t of the b codes
unfoldable pub tone_at : ℕ → List ℕ → ℕ → ℕ
tone_at b codes t = gray (symbol_at b codes t)

-- the block as encoded: 64 tones
unfoldable pub tones_of : ℕ → List ℕ → List ℕ
tones_of b codes = tab (tone_at b codes) 64
