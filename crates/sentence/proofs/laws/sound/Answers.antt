use Rattle.sentence.proofs.Soundness.{sound}
use Rattle.sentence.proofs.laws.sound.Goals as goal

pub returns : goal.returns
returns c = sound
