-- Text in ASCII, as bytes.
use Rattle.std.specs.Prelude.{List, ℕ}
use Prim.Native.Char.{code}
use Prim.Native.String.{String, len, char_at}
use Rattle.lists.specs.Lists.{tab}

-- the bytes of a text
unfoldable pub ascii : String → List ℕ
ascii s = tab (λ i. code (char_at s i)) (len s)

abbrev pub line_feed : ℕ
line_feed = 10

abbrev pub space : ℕ
space = 32

abbrev pub hyphen : ℕ
hyphen = 45
