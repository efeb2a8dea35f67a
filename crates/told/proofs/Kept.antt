-- An answer that carries less than 2^32 is its own capped answer.
use mathlib.Core.Path.{◌≡◌, refl, ap}
use Prim.Native.Nat.{ℕ, ◌<◌, ◌^◌}
use native.Mathlib.Omega.{arith}
use native.Mathlib.Decide.{dec_lt}
use Rattle.std.proofs.Common.{Result, Ok, Err, min}
use Rattle.std.specs.Result.{OkIff, result_unwrap_or}
use Rattle.lists.specs.Caps.{capped}
use Rattle.refusal.specs.Refused.{Answered}
use Rattle.refusal.specs.declared.Refusal.{Refusal}
use Rattle.block_decoder.specs.declared.BlockDecoded.{BlockDecoded}
use Rattle.finder.specs.declared.BlockFound.{BlockFound}
use Rattle.band.specs.declared.Located.{Located}
use Rattle.band.specs.declared.Located.TheVariants as located
use Rattle.energy.specs.declared.Energies.{Energies}
use Rattle.sentence.proofs.Sizes.{read_carries}
use Rattle.told.specs.Capped.{place_capped, counted_capped, refused_capped, block_capped, found_capped, energies_capped, located_capped, read_capped}

-- the count, the start or the place that an answer carries
abbrev pub carried_by : Answered ℕ → ℕ
carried_by (Ok n) = n
carried_by (Err r) = r.place

-- the place that a refusal carries
abbrev pub refused_by : {A : Type 0} → Answered A → ℕ
refused_by (Ok x) = 0
refused_by (Err r) = r.place

pub small_kept : (n : ℕ) → n < 2 ^ 32 → capped n ≡ n
unfolding capped
small_kept n h = omega arith

place_kept : (r : Refusal) → r.place < 2 ^ 32 → place_capped r ≡ r
place_kept r h = let e = small_kept r.place h in λ i. record { reason = r.reason; place = e i; lead = r.lead }

pub counted_kept : (a : Answered ℕ) → carried_by a < 2 ^ 32 → counted_capped a ≡ a
counted_kept (Ok n) h = ap Ok (small_kept n h)
counted_kept (Err r) h = ap Err (place_kept r h)

pub refused_kept : {A : Type 0} (a : Answered A) → refused_by a < 2 ^ 32 → refused_capped a ≡ a
refused_kept (Ok x) h = refl
refused_kept (Err r) h = ap Err (place_kept r h)

pub refused_small : {A : Type 0} (a : Answered A) → ((r : Refusal) → a ≡ Err r → r.place < 2 ^ 32) → refused_by a < 2 ^ 32
refused_small (Ok x) h = omega arith
refused_small (Err r) h = h r refl

pub block_kept : (d : BlockDecoded) → carried_by d.answer < 2 ^ 32 → block_capped d ≡ d
block_kept d h = let e = counted_kept d.answer h in λ i. record { answer = e i; characters = d.characters }

pub found_kept : (d : BlockFound) → carried_by d.answer < 2 ^ 32 → found_capped d ≡ d
found_kept d h = let e = counted_kept d.answer h in λ i. record { answer = e i; characters = d.characters }

pub energies_kept : (e : Energies) → refused_by e.answer < 2 ^ 32 → energies_capped e ≡ e
energies_kept e h = let a = refused_kept e.answer h in λ i. record { answer = a i; sums = e.sums }

-- the place that a refused measurement carries
abbrev pub located_carries : Located → ℕ
located_carries (located.Heard n off) = 0
located_carries located.NotFinite = 0
located_carries located.OutsideBand = 0
located_carries (located.Refused r) = r.place

pub located_kept : (l : Located) → located_carries l < 2 ^ 32 → located_capped l ≡ l
located_kept (located.Heard n off) h = refl
located_kept located.NotFinite h = refl
located_kept located.OutsideBand h = refl
located_kept (located.Refused r) h = ap located.Refused (place_kept r h)

pub read_kept : (a : Answered Refusal) → read_carries a < 2 ^ 32 → read_capped a ≡ a
read_kept (Ok r) h = ap Ok (place_kept r h)
read_kept (Err r) h = ap Err (place_kept r h)

-- a number that 32 bits hold, or else the largest of theirs
pub told_or_most : {E : Type 0} (n : ℕ) (r : Result ℕ E) → OkIff r (n < 2 ^ 32) n → result_unwrap_or r 4294967295 ≡ capped n
unfolding capped
told_or_most n (Ok x) h = omega (arith, h.0, h.1)
told_or_most n (Err e) h = by (dec_lt n (2 ^ 32))
  where
    by : Dec (n < 2 ^ 32) → 4294967295 ≡ min n 4294967295
    by (yes l) = absurd (h l)
    by (no g) = omega arith
