-- What C is told of each answer (include/olivia.h).
use Rattle.std.specs.Prelude.{List, ℕ, get_or, Ok, Err, Option, Some, None}
use Rattle.lists.specs.Lists.{tab}
use Rattle.refusal.specs.declared.Refusal.{Refusal}
use Rattle.decision.specs.Decision.{none}
use Rattle.decision.specs.declared.Character.{Character}
use Rattle.block_decoder.specs.declared.BlockDecoded.{BlockDecoded}
use Rattle.finder.specs.Stretch.{start_of}
use Rattle.finder.specs.declared.BlockFound.{BlockFound}
use Rattle.energy.specs.declared.Energies.{Energies}
use Rattle.scaled.specs.Exact.{scaled}
use Rattle.band.specs.Locating.{refusal_of}
use Rattle.band.specs.declared.Located.{Located}
use Rattle.band.specs.declared.Located.TheVariants as located
use Rattle.sender.specs.declared.Served.{Served}
use Rattle.told.specs.declared.Answer.{Answer}
use Rattle.told.specs.declared.CharacterAnswer.{CharacterAnswer}
use Rattle.told.specs.declared.BlockAnswer.{BlockAnswer}
use Rattle.told.specs.declared.FoundAnswer.{FoundAnswer}
use Rattle.told.specs.declared.EnergiesAnswer.{EnergiesAnswer}
use Rattle.told.specs.declared.LocatedAnswer.{LocatedAnswer}
use Rattle.told.specs.declared.SentAnswer.{SentAnswer}
use Rattle.told.specs.declared.ReadAnswer.{ReadAnswer}
use Rattle.refusal.specs.Refused.{Answered, number_of}

-- number 0: accepted, with the count of tones, codes or bytes written
abbrev pub accepted_told : ℕ → Answer
accepted_told n = record { number = 0; place = 0; lead = 0; count = n }

abbrev pub refusal_told : Refusal → Answer
refusal_told r = record { number = number_of r.reason; place = r.place; lead = r.lead; count = 0 }

-- a count of what was written, or the refusal
abbrev pub counted_told : Answered ℕ → Answer
counted_told (Ok n) = accepted_told n
counted_told (Err r) = refusal_told r

abbrev pub character_told : Character → CharacterAnswer
character_told c = record {
  code = c.code;
  lead = c.lead;
  word = c.word;
  correlation = c.correlation;
  next = c.next;
  next_correlation = c.next_correlation;
}

-- all eight characters
unfoldable pub characters_told : List Character → List CharacterAnswer
characters_told characters = tab (λ q. character_told (get_or characters q none)) 8

unfoldable pub block_told : BlockDecoded → BlockAnswer
block_told d = record { answer = counted_told d.answer; characters = characters_told d.characters }

-- a block found has the mode's b codes
abbrev pub finding_told : ℕ → Answered ℕ → Answer
finding_told b (Ok start) = accepted_told b
finding_told b (Err r) = refusal_told r

unfoldable pub found_told : ℕ → BlockFound → FoundAnswer
found_told b d = record { answer = finding_told b d.answer; start = start_of d.answer; characters = characters_told d.characters }

-- number 0: the total, beside the sums
abbrev pub sums_told : List ℕ → Answered ℕ → EnergiesAnswer
sums_told sums (Ok n) = record { number = 0; place = 0; total = n; sums = sums }
sums_told sums (Err r) = record { number = number_of r.reason; place = r.place; total = 0; sums = sums }

abbrev pub energies_told : Energies → EnergiesAnswer
energies_told e = sums_told e.sums e.answer

-- a refusal has neither tone nor distance: zeros stand there
abbrev pub nowhere_told : Refusal → LocatedAnswer
nowhere_told r = record { number = number_of r.reason; place = r.place; tone = 0; hertz_off = scaled 0 }

-- by the refusal that `band` says a case is; every case but a tone is one
abbrev pub unheard_told : Option Refusal → LocatedAnswer
unheard_told (Some r) = nowhere_told r
unheard_told None = record { number = 0; place = 0; tone = 0; hertz_off = scaled 0 }

-- number 0: the tone, and its distance
abbrev pub located_told : Located → LocatedAnswer
located_told (located.Heard n off) = record { number = 0; place = 0; tone = n; hertz_off = off }
located_told located.NotFinite = unheard_told (refusal_of located.NotFinite)
located_told located.OutsideBand = unheard_told (refusal_of located.OutsideBand)
located_told (located.Refused r) = unheard_told (refusal_of (located.Refused r))

-- a block that is handed in writes nothing yet
abbrev pub handed_told : Answered Unit → Answer
handed_told (Ok tt) = accepted_told 0
handed_told (Err r) = refusal_told r

-- 64 tones of a depot's block, or none
abbrev pub sent_told : Answered (Option Served) → SentAnswer
sent_told (Ok (Some s)) = record { answer = accepted_told 64; depot = s.depot; mode = s.mode }
sent_told (Ok None) = record { answer = accepted_told 0; depot = 0; mode = 0 }
sent_told (Err r) = record { answer = refusal_told r; depot = 0; mode = 0 }

-- number 0: the refusal that the sentence came from
abbrev pub read_told : Answered Refusal → ReadAnswer
read_told (Ok r) = record { answer = accepted_told 0; number = number_of r.reason; place = r.place; lead = r.lead }
read_told (Err r) = record { answer = refusal_told r; number = 0; place = 0; lead = 0 }
