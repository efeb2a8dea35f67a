-- The band's edge and spacing and a tone's place, as the code computes them, are exact, and are the fractions of document 01.
use Rattle.std.proofs.Common.{None}
use mathlib.Core.Path.{◌≡◌, refl, sym, ap, ap₂, ◌∙◌}
use mathlib.Core.Bool.{false}
use Prim.Native.Nat.{ℕ, ◌+◌, ◌-◌, ◌*◌, ◌^◌, ◌<◌, ◌≤◌}
use native.Mathlib.Nat.{mul_comm, mul_assoc, mul_right_comm, mul-le-mul, add-mul, le_of_lt, lt_of_lt_of_le}
use native.Mathlib.Omega.{arith}
use lib.Dec.{lit<}
use lib.Pow.{pow-add, pow_mono}
use lib.Ieee.{Float, binary64, of_bits, of_int, add, sub, mul, div}
use lib.Ieee.Exact.{HasValue}
use Rattle.scaled.specs.Exact.{scaled, whole}
use Rattle.band.specs.Limits.{fault}
use Rattle.band.specs.Frequencies.{edge512, spacing512, half512, tone512, band_of, hertz_of, hertz_in}
use Rattle.band.specs.Locating.{tone_edge512}
use Rattle.band.specs.Internal.{tone_edge_in}
use Rattle.band.specs.declared.Band.{Band}
use Rattle.scaled.proofs.Scaling.{scaled_value, cast_exact, sum_exact, difference_exact, product_exact, quotient_exact}
use Rattle.scaled.proofs.Rounding.{same_value}
use Rattle.band.proofs.Settings.{Within, within}

-- the literal 2.0
abbrev two : Float
two = of_bits binary64 0x4000_0000_0000_0000

two_whole : two ≡ whole 2
unfolding of_bits of_int
two_whole = refl

half_exact : (i : ℕ) → i < 2 ^ 53 → div binary64 (scaled (i * 2)) (whole 2) ≡ scaled i
half_exact i h = quotient_exact i 1 (lit< tt) h

-- ---- the numbers of 1/512 Hz

module _ (b : ℕ) (h : b ≤ 8) where
  powers : 2 ^ (9 - b) * 2 ^ b ≡ 512
  powers =
      let nine : 9 - b + b ≡ 9 = omega arith in
      sym (pow-add 2 (9 - b) b) ∙ ap (λ (k : ℕ). 2 ^ k) nine

  pub halved : (w : ℕ) → spacing512 b w ≡ half512 b w * 2
  unfolding spacing512 half512
  halved w =
      let one : 9 - b ≡ 8 - b + 1 = omega arith in
      ap (λ (k : ℕ). w * 2 ^ k) one ∙ ap (λ (k : ℕ). w * k) (pow-add 2 (8 - b) 1) ∙ sym (mul_assoc w (2 ^ (8 - b)) 2)

  pub in_tones : (w : ℕ) → spacing512 b w * 2 ^ b ≡ 512 * w
  unfolding spacing512
  in_tones w = mul_assoc w (2 ^ (9 - b)) (2 ^ b) ∙ ap (λ (k : ℕ). w * k) powers ∙ mul_comm w 512

spacing_high : (b w : ℕ) → 1 ≤ b → w ≤ 2000 → spacing512 b w ≤ 512000
unfolding spacing512
spacing_high b w h l = mul-le-mul l (pow_mono {i = 9 - b} {j = 8} (omega arith))

edge_high : (w c : ℕ) → c ≤ 10000 → edge512 w c ≤ 5120000
unfolding edge512
edge_high w c h = omega arith

-- ---- what the code computes

pub hertz_computed : (band : Band) (n : ℕ)
    → add binary64 (add binary64 band.edge (div binary64 band.spacing two)) (mul binary64 band.spacing (whole n)) ≡ hertz_in band n
unfolding hertz_in
hertz_computed band n = rw two_whole

module _ (b w c : ℕ) (e : fault b w c 0 ≡ None) where
  limits : Within b w c
  limits = within b w c 0 e

  pub edge_exact : sub binary64 (whole c) (div binary64 (whole w) two) ≡ scaled (edge512 w c)
  unfolding edge512
  edge_exact =
      let h = limits in
      let twice : 512 * w ≡ 256 * w * 2 = omega arith in
      ap (λ (x : Float). sub binary64 (whole c) (div binary64 (whole w) x)) two_whole
      ∙ ap₂ (λ (x y : Float). sub binary64 x (div binary64 y (whole 2))) (cast_exact c (omega arith)) (cast_exact w (omega arith) ∙ ap scaled twice)
      ∙ ap (λ (x : Float). sub binary64 (scaled (512 * c)) x) (half_exact (256 * w) (omega arith))
      ∙ difference_exact (512 * c) (256 * w) (omega arith) (omega arith)

  pub spacing_exact : div binary64 (whole w) (whole (2 ^ b)) ≡ scaled (spacing512 b w)
  spacing_exact =
      let h = limits in
      let small : spacing512 b w ≤ 512000 = spacing_high b w h.mode_low h.width_high in
      ap (λ (x : Float). div binary64 x (whole (2 ^ b))) (cast_exact w (omega arith) ∙ ap scaled (sym (in_tones b h.mode_high w)))
      ∙ quotient_exact (spacing512 b w) b (omega arith) (omega arith)

  pub half_small : half512 b w < 2 ^ 53
  half_small =
      let h = limits in
      omega (arith, halved b h.mode_high w, spacing_high b w h.mode_low h.width_high)

  tone_small : (n : ℕ) → n < 2 ^ 16 → tone512 b w c n < 2 ^ 53
  unfolding tone512
  tone_small n l =
      let h = limits in
      let low : edge512 w c ≤ 5120000 = edge_high w c h.centre_high in
      let small : spacing512 b w ≤ 512000 = spacing_high b w h.mode_low h.width_high in
      let product : spacing512 b w * n ≤ 512000 * 65536 = mul-le-mul small (le_of_lt l) in
      omega (arith, halved b h.mode_high w)

  pub hertz_exact : (n : ℕ) → n < 2 ^ 16 → hertz_in (band_of b w c) n ≡ hertz_of b w c n
  unfolding hertz_in band_of hertz_of tone512
  hertz_exact n l =
      let all : edge512 w c + half512 b w + spacing512 b w * n < 2 ^ 53 = tone_small n l in
      let twice : spacing512 b w ≡ half512 b w * 2 = halved b limits.mode_high w in
      let half : div binary64 (scaled (spacing512 b w)) (whole 2) ≡ scaled (half512 b w) =
      ap (λ (k : ℕ). div binary64 (scaled k) (whole 2)) twice ∙ half_exact (half512 b w) (omega arith) in
      let first : add binary64 (scaled (edge512 w c)) (div binary64 (scaled (spacing512 b w)) (whole 2)) ≡ scaled (edge512 w c + half512 b w) =
      ap (λ (x : Float). add binary64 (scaled (edge512 w c)) x) half ∙ sum_exact (edge512 w c) (half512 b w) (omega arith) in
      ap₂ (λ (x y : Float). add binary64 x y) first (product_exact (spacing512 b w) n (omega arith) (omega arith))
      ∙ sum_exact (edge512 w c + half512 b w) (spacing512 b w * n) (omega arith)

  pub tone_edge_exact : (n : ℕ) → n < 2 ^ 16 → tone_edge_in (band_of b w c) n ≡ scaled (tone_edge512 b w c n)
  unfolding tone_edge_in band_of tone_edge512 tone512
  tone_edge_exact n l =
      let all : edge512 w c + half512 b w + spacing512 b w * n < 2 ^ 53 = tone_small n l in
      ap (λ (x : Float). add binary64 (scaled (edge512 w c)) x) (product_exact (spacing512 b w) n (omega arith) (omega arith))
      ∙ sum_exact (edge512 w c) (spacing512 b w * n) (omega arith)

  -- ---- a tone of the mode

  in_16_bits : (n : ℕ) → n < 2 ^ b → n < 2 ^ 16
  in_16_bits n l =
      let small : b ≤ 8 = limits.mode_high in
      lt_of_lt_of_le l (pow_mono {i = b} {j = 16} (omega arith))

  pub tone_hertz_exact : (n : ℕ) → n < 2 ^ b → hertz_in (band_of b w c) n ≡ hertz_of b w c n
  tone_hertz_exact n l = hertz_exact n (in_16_bits n l)

  pub mode_tone_small : (n : ℕ) → n < 2 ^ b → tone512 b w c n < 2 ^ 53
  mode_tone_small n l = tone_small n (in_16_bits n l)

-- ---- the fractions

module _ (b w c : ℕ) (e : fault b w c 0 ≡ None) where
  pub edge_fraction : HasValue (scaled (edge512 w c)) false (2 * c - w) 2
  unfolding edge512
  edge_fraction =
      same_value (scaled (edge512 w c)) (edge512 w c) 512 (2 * c - w) 2 (lit< tt) (omega (arith, (limits b w c e).centre_low)) (scaled_value (edge512 w c))

  pub spacing_fraction : HasValue (scaled (spacing512 b w)) false w (2 ^ b)
  spacing_fraction =
      same_value (scaled (spacing512 b w)) (spacing512 b w) 512 w (2 ^ b) (lit< tt)
      (mul_comm w 512 ∙ sym (in_tones b (limits b w c e).mode_high w)) (scaled_value (spacing512 b w))

  over_tones : (n : ℕ) → ((2 * c - w) * 2 ^ b + w + 2 * w * n) * 512 ≡ tone512 b w c n * (2 * 2 ^ b)
  unfolding tone512 edge512
  over_tones n =
      let h = limits b w c e in
      let low = 2 * c - w in
      let space = spacing512 b w in
      let tones = 2 ^ b in
      let edge : edge512 w c ≡ 256 * low = omega arith in
      let half : space ≡ half512 b w * 2 = halved b h.mode_high w in
      let twice : tone512 b w c n * 2 ≡ 512 * low + space + 2 * (space * n) = omega arith in
      let apart : (512 * low + space + 2 * (space * n)) * tones ≡ 512 * low * tones + space * tones + 2 * (space * n) * tones =
      add-mul (512 * low + space) (2 * (space * n)) tones ∙ ap (λ (k : ℕ). k + 2 * (space * n) * tones) (add-mul (512 * low) space tones) in
      let spaces : space * n * tones ≡ 512 * (w * n) =
      mul_right_comm space n tones ∙ ap (λ (k : ℕ). k * n) (in_tones b h.mode_high w) ∙ mul_assoc 512 w n in
      let parts : 512 * low * tones + space * tones + 2 * (space * n) * tones ≡ (low * tones + w + 2 * w * n) * 512 =
      omega (arith, mul_assoc 512 low tones, in_tones b h.mode_high w, mul_assoc 2 (space * n) tones, mul_assoc 2 w n) in
      sym parts ∙ sym apart ∙ ap (λ (k : ℕ). k * tones) (sym twice) ∙ mul_assoc (tone512 b w c n) 2 tones

  pub tone_fraction : (n : ℕ) → HasValue (hertz_of b w c n) false ((2 * c - w) * 2 ^ b + w + 2 * w * n) (2 * 2 ^ b)
  unfolding hertz_of
  tone_fraction n =
      same_value (scaled (tone512 b w c n)) (tone512 b w c n) 512 ((2 * c - w) * 2 ^ b + w + 2 * w * n) (2 * 2 ^ b) (lit< tt)
      (over_tones n) (scaled_value (tone512 b w c n))
