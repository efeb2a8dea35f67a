use Rattle.std.proofs.Common.{◌∙◌, sym, ap, Err, lt-ltb, le-ltb, length}
use Rattle.lists.proofs.Found.{found_some, found_none}
use Rattle.refusal.specs.Refused.{refused_at}
use Rattle.refusal.specs.declared.Reason.{Reason}
use Rattle.block_encoder.specs.Encoding.{first_bad_code}
use Rattle.block_encoder.specs.Checking.{check_each}
use Rattle.block_encoder.proofs.CheckCases.{code_found}
use Rattle.block_encoder.proofs.check_each.Goals as goal

pub returns-in-Some : goal.returns-in-Some
unfolding check_each
returns-in-Some c =
    let known = found_some _ _ _ (sym (code_found _) ∙ sym c.first_bad_code.ensures ∙ c.in-Some.is) in
    ap Err (c.at.ensures ∙ ap (refused_at Reason.Code) known.0) ∙ simp (lt-ltb (first_bad_code c.args.codes.now) (length c.args.codes.now) known.1)

pub returns-in-None : goal.returns-in-None
unfolding check_each
returns-in-None c =
    let known = found_none _ _ (sym (code_found _) ∙ sym c.first_bad_code.ensures ∙ c.in-None.is) in
    simp (le-ltb (first_bad_code c.args.codes.now) (length c.args.codes.now) known)
