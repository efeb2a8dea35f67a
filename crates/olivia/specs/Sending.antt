-- What C can count on from a sender: there is an answer for which the promises of sender hold, and C is told that answer.
use Rattle.std.specs.Prelude.{◌≡◌, List, ℕ, Option}
use Rattle.sender.specs.declared.Served.{Served}
use Rattle.sender.specs.Queues.{Block}
use Rattle.sender.specs.Sending.{HandedIn, HandedToAny, SentFrom, SentFromAny}
use Rattle.told.specs.declared.Answer.{Answer}
use Rattle.told.specs.declared.SentAnswer.{SentAnswer}
use Rattle.told.specs.Told.{handed_told, sent_told}
use Rattle.refusal.specs.Refused.{Answered}

pub record HandedInForC (state : List ℕ) (depot : ℕ) (b : Block) (r : Answer) (next : List ℕ) : Type 0 where
  pub answer : Answered Unit
  pub told : r ≡ handed_told answer
  pub run : HandedIn state depot b answer next
  pub any : HandedToAny state depot b answer next

pub record SentForC (state tones : List ℕ) (r : SentAnswer) (tones' next : List ℕ) : Type 0 where
  pub answer : Answered (Option Served)
  pub told : r ≡ sent_told answer
  pub run : SentFrom state tones answer tones' next
  pub any : SentFromAny state tones answer tones' next
