use mathlib.Core.Path.{◌∙◌, ap}
use Rattle.told.specs.Told.{counted_told}
use Rattle.told.proofs.Kept.{counted_kept}
use Rattle.olivia.proofs.Carried.{message_sent_small}
use Rattle.olivia.proofs.olivia_encode_message.Goals as goal

pub returns : goal.returns
returns c =
    let called = c.encode_message in
    let kept = counted_kept called.result (rw called.ensures.answer (message_sent_small _ _ _)) in
    record { answer = c.from.ensures ∙ ap counted_told (kept ∙ called.ensures.answer); output = called.ensures.output }
