use Rattle.reader_laws.proofs.LineReading.{reading}
use Rattle.reader_laws.proofs.laws.reading.Goals as goal

pub returns : goal.returns
returns c = reading
