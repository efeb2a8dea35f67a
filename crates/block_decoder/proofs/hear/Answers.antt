use Rattle.std.proofs.Common.{◌≡◌, ◌∙◌, sym, ap, ℕ, ◌≤◌, Ok, arith}
use Rattle.refusal.specs.Refused.{Answered}
use Rattle.refusal.proofs.Limits.{mode_range}
use Rattle.block_decoder.specs.Decoding.{weighted_of, padded, heard_block, heard_into}
use Rattle.block_decoder.specs.declared.BlockDecoded.{BlockDecoded}
use Rattle.block_decoder.proofs.DecodeCases.{listened_refused, listened_passed, listened_mode, same_decoded, accepted, codes_put}
use Rattle.block_decoder.proofs.hear.Goals as goal
use Rattle.block_decoder.proofs.hear.Goals.{After-judge-answer}

pub judge-answer-requires : goal.judge-answer-requires
judge-answer-requires c = (mode_range _ (listened_mode _ _ _ _ _ _ _ (sym c.in-Ok.ensures))).1

-- the decisions are those on the block's characters
found : (c : After-judge-answer) → let a = c.args in c.in-Ok.characters ≡ padded (weighted_of a.mode a.tones.now a.weights.now)
found c = (listened_passed _ _ _ _ _ _ _ (sym c.in-Ok.ensures)).0

-- the answer
decided : (c : After-judge-answer) → let a = c.args in
    ◌≡◌ {A = BlockDecoded} (record { answer = c.judge-answer.result; characters = c.in-Ok.characters }) (heard_block a.greatest a.mode a.least_lead a.tones.now a.weights.now a.room)
decided c =
    same_decoded _ _ _ _ c.judge-answer.ensures (found c) ∙ sym (listened_passed _ _ _ _ _ _ _ (sym c.in-Ok.ensures)).1

accepted_text : (c : After-judge-answer) {n : ℕ} → c.judge-answer.result ≡ Ok n → let a = c.args in (heard_block a.greatest a.mode a.least_lead a.tones.now a.weights.now a.room).answer ≡ Ok n
accepted_text c e = ap (λ (x : BlockDecoded). x.answer) (sym (decided c)) ∙ e

pub put_codes-requires : goal.put_codes-requires
put_codes-requires c =
    let told = accepted _ _ _ _ _ _ _ (accepted_text (goal.at.put_codes-requires c).After-judge-answer c.in-Ok-answer.is) in
    let few : c.in-Ok-answer.count ≤ 8 = omega (arith, told.whole, (mode_range c.args.mode told.passed.mode).1) in
    (omega (arith, few), omega (arith, c.requires.1 _ few (omega (arith, told.whole, told.passed.fits))))

pub returns-in-Ok-answer : goal.returns-in-Ok-answer
returns-in-Ok-answer c =
    let place = (goal.at.returns-in-Ok-answer c).After-judge-answer in
    let e = c.in-Ok-answer.is in
    record {
      answer = ap (λ (x : Answered ℕ). record { answer = x; characters = c.in-Ok.characters }) (sym e) ∙ decided place;
      output = codes_put _ _ _ _ _ _ _ _ _ _ (accepted_text place e) (found place) c.put_codes.ensures;
    }

pub returns-in_default : goal.returns-in_default
unfolding heard_into
returns-in_default c =
    let place = (goal.at.returns-in_default c).After-judge-answer in
    record { answer = decided place; output = rw (ap (λ (x : BlockDecoded). x.answer) (sym (decided place)) ∙ c.in_default.is) }

pub returns-in-Err : goal.returns-in-Err
unfolding heard_into
returns-in-Err c =
    let told = listened_refused _ _ _ _ _ _ _ (sym c.in-Err.ensures) in
    record { answer = sym told; output = rw told }
