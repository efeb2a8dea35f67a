-- What is checked of a block that is to be sent later: 1, 5, 6.
use Rattle.std.specs.Prelude.{cond, not, List, ℕ, ltb, eqb, length, Ok, Err}
use Rattle.refusal.specs.Refused.{Answered, refused_at}
use Rattle.refusal.specs.Checks.{is_mode}
use Rattle.block_encoder.specs.Encoding.{first_bad_code}
use Rattle.refusal.specs.declared.Reason.{Reason}

-- 1, 5
unfoldable pub check_count : ℕ → List ℕ → Answered Unit
check_count b codes =
    cond (not (is_mode b)) (Err (refused_at Reason.Mode 0))
    (cond (not (eqb (length codes) b)) (Err (refused_at Reason.CodeCount 0))
    (Ok tt))

-- 6
unfoldable pub check_each : List ℕ → Answered Unit
check_each codes =
    cond (ltb (first_bad_code codes) (length codes)) (Err (refused_at Reason.Code (first_bad_code codes)))
    (Ok tt)

unfoldable pub check_codes : ℕ → List ℕ → Answered Unit
check_codes b codes =
    cond (not (is_mode b)) (Err (refused_at Reason.Mode 0))
    (cond (not (eqb (length codes) b)) (Err (refused_at Reason.CodeCount 0))
    (cond (ltb (first_bad_code codes) b) (Err (refused_at Reason.Code (first_bad_code codes)))
    (Ok tt)))
