-- Answers as 32 bits hold them.
use Rattle.lists.specs.Caps.{capped}
use Rattle.refusal.specs.declared.Refusal.{Refusal}
use Rattle.block_decoder.specs.declared.BlockDecoded.{BlockDecoded}
use Rattle.finder.specs.declared.BlockFound.{BlockFound}
use Rattle.band.specs.declared.Located.{Located}
use Rattle.band.specs.declared.Located.TheVariants as located
use Rattle.energy.specs.declared.Energies.{Energies}
use Rattle.std.specs.Prelude.{ℕ, Ok, Err}
use Rattle.refusal.specs.Refused.{Answered}

-- a refusal with its place capped
abbrev pub place_capped : Refusal → Refusal
place_capped r = record { reason = r.reason; place = capped r.place; lead = r.lead }

-- an answer with its count, start or place capped
abbrev pub counted_capped : Answered ℕ → Answered ℕ
counted_capped (Ok n) = Ok (capped n)
counted_capped (Err r) = Err (place_capped r)

-- an answer with its refusal's place capped
abbrev pub refused_capped : {A : Type 0} → Answered A → Answered A
refused_capped (Ok x) = Ok x
refused_capped (Err r) = Err (place_capped r)

-- a decoded block with its answer capped
abbrev pub block_capped : BlockDecoded → BlockDecoded
block_capped d = record { answer = counted_capped d.answer; characters = d.characters }

-- a block found with its answer capped
abbrev pub found_capped : BlockFound → BlockFound
found_capped d = record { answer = counted_capped d.answer; characters = d.characters }

-- energies with their answer capped
abbrev pub energies_capped : Energies → Energies
energies_capped e = record { answer = refused_capped e.answer; sums = e.sums }

-- what locating answers, with its place capped
abbrev pub located_capped : Located → Located
located_capped (located.Heard n off) = located.Heard n off
located_capped located.NotFinite = located.NotFinite
located_capped located.OutsideBand = located.OutsideBand
located_capped (located.Refused r) = located.Refused (place_capped r)

-- what reading a sentence answers, with its place capped
abbrev pub read_capped : Answered Refusal → Answered Refusal
read_capped (Ok r) = Ok (place_capped r)
read_capped (Err r) = Err (place_capped r)
