-- What only private contracts need: the keys of the lead finder, one number for a word and its magnitude, so that the largest key is that
-- of the foremost word.
use Rattle.std.specs.Prelude.{List, ℕ, ◌+◌, ◌-◌, ◌*◌, max, unwrap_or, ℤ, nat_abs}
use Rattle.std.specs.List.{reduce}

-- ordered by magnitude, and among equals the lower word has the larger key
unfoldable pub key_of : (ℕ → ℤ) → ℕ → ℕ
key_of r k = nat_abs (r k) * 64 + (63 - k)

-- the largest of the numbers, 0 if there is none
abbrev pub largest : List ℕ → ℕ
largest x = unwrap_or (reduce max x) 0
