use Rattle.std.proofs.Common.{◌≡◌, ◌-◌, ltb}
use Rattle.lists.specs.Places.{scan}
use Rattle.block_decoder.specs.Decoding.{lead_in}
use Rattle.block_decoder.specs.Internal.{first_unclear_in}
use Rattle.block_decoder.proofs.judge.Given as goal

abbrev pub invariant-loop-q : goal.invariant-loop-q
invariant-loop-q l = scan (λ k. ltb (lead_in l.characters k) l.least_lead) l.q (l.mode - l.q) ≡ first_unclear_in l.mode l.least_lead l.characters
