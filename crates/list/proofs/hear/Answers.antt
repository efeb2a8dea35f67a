use lib.ListN.{take}
use Rattle.stages.proofs.Tellings.{tells_fits}
use Rattle.listing.specs.Steps.{heard}
use Rattle.list.proofs.hear.Goals as goal

pub tell-requires : goal.tell-requires
tell-requires g c =
    let a = c.args in
    let hear = c.hear-progress.ensures in tells_fits a.out.now (heard a.listing a.tones.now (take c.in-Ok.count c.read.new.buf)) hear.answer hear.output
