use Rattle.std.proofs.Common.{rules, ◌≡◌, ◌∙◌, sym, ℕ, Result, Err}
use Rattle.refusal.specs.declared.Refusal.{Refusal}
use Rattle.block_encoder.proofs.EncodeCases.{refuses_room, encodes, tones_kept, tones_written, refusal_told_lem}
use Rattle.block_encoder.proofs.CheckCases.{count_refused, count_passed, each_refused, each_passed}
use Rattle.block_encoder.proofs.encode_block.Goals as goal

pub returns-in_err-check_count : goal.returns-in_err-check_count
returns-in_err-check_count c =
    let told : ◌≡◌ {A = Result ℕ Refusal} c.from_residual.result (Err c.in_err-check_count.field-0.0) = search rules in
    let same = count_refused _ _ (sym c.in_err-check_count.ensures) _ in
    record { answer = told ∙ sym same; output = sym (tones_kept _ _ _ same) }

pub returns-then-tones-lt64 : goal.returns-then-tones-lt64
returns-then-tones-lt64 c =
    let known = count_passed _ _ (sym c.in_ok-check_count.ensures) in
    let both = refusal_told_lem _ _ _ c.at.ensures (refuses_room _ _ _ known.0 known.1 c.if-tones-lt64.true) in
    record { answer = both.0; output = both.1 }

pub returns-in_err-check_each : goal.returns-in_err-check_each
returns-in_err-check_each c =
    let told : ◌≡◌ {A = Result ℕ Refusal} c.from_residual-in_err-check_each.result (Err c.in_err-check_each.field-0.0) = search rules in
    let known = count_passed _ _ (sym c.in_ok-check_count.ensures) in
    let same = each_refused _ _ known.0 known.1 _ c.if-tones-lt64.false (sym c.in_err-check_each.ensures) in
    record { answer = told ∙ sym same; output = sym (tones_kept _ _ _ same) }

pub put_tones-requires : goal.put_tones-requires
put_tones-requires c =
    let known = count_passed _ _ (sym c.in_ok-check_count.ensures) in
    (known.0, known.1, c.if-tones-lt64.false)

pub returns : goal.returns
returns c =
    let known = count_passed _ _ (sym c.in_ok-check_count.ensures) in
    let sent = encodes _ _ _ known.0 known.1 c.if-tones-lt64.false (each_passed _ _ known.0 known.1 (sym c.in_ok-check_each.ensures)) in
    record { answer = sym sent; output = c.put_tones.ensures ∙ sym (tones_written _ _ _ sent) }
