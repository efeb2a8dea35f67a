-- The laws of a band. Each is the promise of the function of the same name in src/laws.rt. `HasValue x false a c` says that x is finite,
-- has no minus sign, and is a / c.
use Rattle.std.specs.Prelude.{◌≡◌, Bool, true, false, ◌&&◌, None, ℕ, ◌+◌, ◌-◌, ◌*◌, ◌^◌, ◌<◌, T, pos, Float, Ok}
use Rattle.std.specs.Option.{is_none}
use Rattle.std.specs.Float.{fin, binary64}
use Rattle.std.specs.Float.Ieee.{fits, neg, sub, lt, le}
use Rattle.std.specs.Float.Ieee.Exact.{HasValue}
use Rattle.std.specs.Float.Ieee.Scale.{finite}
use Rattle.scaled.specs.Exact.{scaled}
use Rattle.band.specs.Limits.{fault}
use Rattle.band.specs.Frequencies.{half512, hertz_of, hertz_in, plan, frequency_of}
use Rattle.band.specs.Locating.{owns, in_band, heard_as, located_of}
use Rattle.band.specs.declared.Band.{Band}
use Rattle.band.specs.declared.Located.{Located}

-- The answers are the fractions of document 01: the lower edge is (2c − w) / 2, the spacing w / 2^b, and a tone, over the
-- denominator 2 × 2^b, lies at c − w / 2 + (w / 2^b) / 2 + (w / 2^b) × n. Where a tone of the mode lies in the band is that
-- same answer.
pub record Fractions : Type 0 where
  pub edge : (b w c : ℕ) (band : Band) → plan b w c ≡ Ok band → HasValue band.edge false (2 * c - w) 2
  pub spacing : (b w c : ℕ) (band : Band) → plan b w c ≡ Ok band → HasValue band.spacing false w (2 ^ b)
  pub tone : (b w c n : ℕ) (x : Float) → frequency_of b w c n ≡ Ok x
      → HasValue x false ((2 * c - w) * 2 ^ b + w + 2 * w * n) (2 * 2 ^ b)
  pub tones_in_band : (b w c n : ℕ) (band : Band) → plan b w c ≡ Ok band → n < 2 ^ b → frequency_of b w c n ≡ Ok (hertz_in band n)

abbrev pub is_heard : Located → Bool
is_heard (Located.Heard n off) = true
is_heard Located.NotFinite = false
is_heard Located.OutsideBand = false
is_heard (Located.Refused r) = false

-- Of right settings exactly what is finite and in the band is heard, as the one tone of the mode that owns it. A tone's own frequency is
-- heard as that tone, off by 0 without a minus sign. An f64 is off by at least minus half a spacing, and by less than half a spacing.
pub record Tuning : Type 0 where
  pub covered : (b w c : ℕ) (x : Float) → is_heard (located_of b w c x) ≡ is_none (fault b w c 0) && finite x && in_band w c x
  pub heard : (b w c n : ℕ) (x off : Float) → located_of b w c x ≡ Located.Heard n off
      → (n < 2 ^ b) × (owns b w c x n ≡ true) × (off ≡ sub binary64 x (hertz_of b w c n))
  pub only : (b w c m n : ℕ) (x : Float) → owns b w c x m ≡ true → owns b w c x n ≡ true → m ≡ n
  pub owned : (b w c n : ℕ) (x : Float) → fault b w c n ≡ None → owns b w c x n ≡ true → located_of b w c x ≡ heard_as b w c x n
  pub own : (b w c n : ℕ) (x : Float) → frequency_of b w c n ≡ Ok x → located_of b w c x ≡ Located.Heard n (fin false 0 (pos 0))
  pub from : (b w c n : ℕ) (x off : Float) → T (fits binary64 x) → located_of b w c x ≡ Located.Heard n off
      → le (neg (scaled (half512 b w))) off ≡ true
  pub below : (b w c n : ℕ) (x off : Float) → T (fits binary64 x) → located_of b w c x ≡ Located.Heard n off → lt off (scaled (half512 b w)) ≡ true
