use native.Mathlib.Omega.{arith}
use lib.ListN.{replicate}
use Rattle.text.proofs.Parts.{field_part}
use Rattle.text.proofs.Writing.{put_as}
use Rattle.text.proofs.put_field.Goals as goal

pub returns : goal.returns
returns c =
    let a = c.args in
    let before = c.put_before-from in
    let put = c.put_text.ensures in
    let part = field_part (replicate 21 a.end) before.new.text a.n before.result 20 before.ensures.answer (omega arith) a.end before.ensures.output in
    let same = put_as a.out.now (put.answer, put.output) part in record { answer = same.0; output = same.1 }
