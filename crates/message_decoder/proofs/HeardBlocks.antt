-- The characters heard: their count, their place and their codes, block by block.
use mathlib.Core.Path.{◌≡◌, ◌∙◌, ap}
use mathlib.Core.List.{List}
use Prim.Native.Nat.{ℕ, ◌+◌, ◌*◌, ◌/◌, ◌<◌, ◌≤◌}
use lib.ListN.{length, get_or}
use Rattle.lists.specs.Lists.{joined}
use Rattle.lists.proofs.Joins.{joined_map, joined_length, joined_before, joined_at}
use Rattle.decision.specs.Decision.{none}
use Rattle.decision.specs.declared.Character.{Character}
use Rattle.block_decoder.specs.Decoding.{plain, characters_of, codes_of}
use Rattle.block_decoder.proofs.Characters.{characters_length, codes_length}
use Rattle.message_encoder.specs.Blocks.{block_at}
use Rattle.message_decoder.specs.Decoding.{heard_characters, message_characters}

module _ (b : ℕ) (tones : List ℕ) where
  abbrev block_characters : ℕ → List Character
  block_characters k = characters_of b (block_at tones k)

  size : (k : ℕ) → length (block_characters k) ≡ b
  size k = characters_length b (block_at tones k) plain

  pub heard_count : (n : ℕ) → length (heard_characters b tones n) ≡ n * b
  unfolding heard_characters
  heard_count n = joined_length block_characters b size n

  pub message_count : length (message_characters b tones) ≡ length tones / 64 * b
  unfolding message_characters
  message_count = heard_count (length tones / 64)

  pub heard_before : (n k i : ℕ) → k ≤ n → i < k * b → get_or (heard_characters b tones n) i none ≡ get_or (heard_characters b tones k) i none
  unfolding heard_characters
  heard_before n k i h l = joined_before block_characters b size none k n i h l

  pub heard_at : (n k q : ℕ) → k < n → q < b → get_or (heard_characters b tones n) (k * b + q) none ≡ get_or (characters_of b (block_at tones k)) q none
  unfolding heard_characters
  heard_at n k q h l = joined_at block_characters b size none k n q h l

  pub heard_codes : (n : ℕ) → codes_of (heard_characters b tones n) ≡ joined (λ k. codes_of (characters_of b (block_at tones k))) n
  unfolding heard_characters codes_of
  heard_codes n = joined_map (λ c. c.code) block_characters n

  pub heard_codes_length : (n : ℕ) → length (codes_of (heard_characters b tones n)) ≡ n * b
  heard_codes_length n = ap length (heard_codes n) ∙ joined_length (λ k. codes_of (block_characters k)) b (λ k. codes_length b (block_at tones k) plain) n
