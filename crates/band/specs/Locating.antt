-- Document 02, order 4: the tone that a measured frequency belongs to, and how far it is off that tone. Edges are whole numbers of 1/512 Hz,
-- and the measurement is compared with them by its own value: nothing is rounded but the distance.
use Rattle.std.specs.Prelude.{Bool, cond, not, ◌&&◌, Option, Some, None, ℕ, suc, ◌+◌, ◌*◌, ◌^◌, Float}
use Rattle.std.specs.Option.{option_or}
use Rattle.std.specs.Float.{binary64}
use Rattle.std.specs.Float.Ieee.{sub}
use Rattle.std.specs.Float.Ieee.Scale.{finite}
use Rattle.lists.specs.Places.{first}
use Rattle.refusal.specs.declared.Reason.{Reason}
use Rattle.refusal.specs.Refused.{refused_at}
use Rattle.refusal.specs.declared.Refusal.{Refusal}
use Rattle.scaled_order.specs.Order.{at_least}
use Rattle.band.specs.Limits.{fault}
use Rattle.band.specs.Frequencies.{edge512, spacing512, hertz_of}
use Rattle.band.specs.declared.Located.{Located}

-- the lower edge plus n spacings
unfoldable pub tone_edge512 : ℕ → ℕ → ℕ → ℕ → ℕ
tone_edge512 b w c n = edge512 w c + spacing512 b w * n

-- tone n owns the stretch from there up to, but without, the next such edge
unfoldable pub owns : ℕ → ℕ → ℕ → Float → ℕ → Bool
owns b w c x n = at_least (tone_edge512 b w c n) x && not (at_least (tone_edge512 b w c (suc n)) x)

-- the tone that owns x; of an x in the band there is one, and no other (law `Tuning`)
unfoldable pub owner_of : ℕ → ℕ → ℕ → Float → ℕ
owner_of b w c x = first (owns b w c x) (2 ^ b)

-- the upper edge, centre + B / 2
unfoldable pub upper512 : ℕ → ℕ → ℕ
upper512 w c = 512 * c + 256 * w

-- neither below the lower edge, nor at or above the upper
unfoldable pub in_band : ℕ → ℕ → Float → Bool
in_band w c x = at_least (edge512 w c) x && not (at_least (upper512 w c) x)

-- x as one of tone n: with the measurement minus that tone's frequency, one f64 subtraction
unfoldable pub heard_as : ℕ → ℕ → ℕ → Float → ℕ → Located
heard_as b w c x n = Located.Heard n (sub binary64 x (hertz_of b w c n))

-- the refusal of a check of the settings that failed, or else what is said of the measurement
abbrev pub settled : Option Reason → Located → Located
settled None said = said
settled (Some reason) said = Located.Refused (refused_at reason 0)

-- checks 1, 3 and 4, where tone 0 is one of every mode; then 15 and 16
unfoldable pub located_of : ℕ → ℕ → ℕ → Float → Located
located_of b w c x =
    settled (fault b w c 0)
    (cond (not (finite x)) Located.NotFinite
    (cond (not (in_band w c x)) Located.OutsideBand
    (heard_as b w c x (owner_of b w c x))))

-- ---- the paper's reasons

-- the refusal that each case is; a tone is none
abbrev pub refusal_of : Located → Option Refusal
refusal_of (Located.Heard n off) = None
refusal_of Located.NotFinite = Some (refused_at Reason.NotFinite 0)
refusal_of Located.OutsideBand = Some (refused_at Reason.OutsideBand 0)
refusal_of (Located.Refused r) = Some r

-- the checks of a measurement, after those of its settings
unfoldable pub measured_fault : ℕ → ℕ → Float → Option Reason
measured_fault w c x =
    cond (not (finite x)) (Some Reason.NotFinite)
    (cond (not (in_band w c x)) (Some Reason.OutsideBand)
    None)

-- the first check that fails, if one does
unfoldable pub locate_fault : ℕ → ℕ → ℕ → Float → Option Reason
locate_fault b w c x = option_or (fault b w c 0) (measured_fault w c x)
