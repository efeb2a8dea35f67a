use Rattle.std.proofs.Common.{rules}
use Rattle.lists.proofs.Tables.{is_tab}
use Rattle.decision.specs.Decision.{none}
use Rattle.told.specs.Told.{character_told, characters_told}
use Rattle.told.proofs.characters.Goals as goal

pub returns : goal.returns
unfolding characters_told
returns c =
    let items = c.map.ensures.items in
    is_tab _ (character_told none) 8 _ items.long (λ q l. let called = items.at q none (character_told none) l in search rules)
