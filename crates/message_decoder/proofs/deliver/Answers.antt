use Rattle.std.proofs.Common.{sym, ◌∙◌, ap, ℕ, ◌≤◌, length, arith}
use Rattle.refusal.specs.Refused.{Answered}
use Rattle.block_decoder.specs.Decoding.{heard_into}
use Rattle.delivery.proofs.TextCases.{text_delivered}
use Rattle.delivery.proofs.TextEnds.{end_within}
use Rattle.message_decoder.proofs.deliver.Goals as goal

pub returns-in_err-n-clause-output : goal.returns-in_err-n-clause-output
unfolding heard_into
returns-in_err-n-clause-output c =
    ap (λ (d : Answered ℕ). heard_into d c.args.codes.now c.args.text.now) c.in_err-n.ensures

-- the text lies within the codes
pub put_text-requires : goal.put_text-requires
put_text-requires c =
    let told = text_delivered _ _ _ _ (sym c.in_ok-n.ensures) in
    let short : c.in_ok-n.n ≤ length c.args.codes.now = omega (arith, told.end, end_within c.args.codes.now) in
    (short, omega (arith, c.requires))

pub returns-clause-output : goal.returns-clause-output
unfolding heard_into
returns-clause-output c =
    c.put_text.ensures ∙ ap (λ (d : Answered ℕ). heard_into d c.args.codes.now c.args.text.now) c.in_ok-n.ensures
