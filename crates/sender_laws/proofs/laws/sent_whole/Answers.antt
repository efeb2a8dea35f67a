use Rattle.sender_laws.proofs.Wholes.{sent_whole}
use Rattle.sender_laws.proofs.laws.sent_whole.Goals as goal

pub returns : goal.returns
returns c = sent_whole
