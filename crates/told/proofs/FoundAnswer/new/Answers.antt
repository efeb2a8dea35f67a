use Rattle.std.proofs.Common.{◌≡◌, refl}
use Rattle.lists.specs.Caps.{capped}
use Rattle.told.specs.Told.{found_told}
use Rattle.told.proofs.Kept.{small_kept}
use Rattle.told.proofs.FoundAnswer.new.Goals as goal

pub returns-in-Ok : goal.returns-in-Ok
unfolding found_told
returns-in-Ok c =
    let mode : capped c.args.mode ≡ c.args.mode = small_kept c.args.mode c.well_formed.0.1 in
    rw (c.in-Ok.is, c.capped.ensures, c.characters-told.ensures, c.accepted.ensures, mode) refl

pub returns-in-Err : goal.returns-in-Err
unfolding found_told
returns-in-Err c = rw (c.in-Err.is, c.from.ensures, c.characters-told.ensures) refl
