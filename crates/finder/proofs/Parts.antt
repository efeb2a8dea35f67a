-- The stretch that an answer tells is a part of the run.
use mathlib.Core.Path.{◌≡◌, refl}
use mathlib.Core.List.{List}
use Prim.Native.Nat.{ℕ, ◌+◌, ◌-◌, ◌≤◌}
use native.Mathlib.Omega.{arith}
use lib.ListN.{length}
use denote.Ref.{Bor}
use borrow.Rule.Slice.PartAt.{sl_partˢ}
use borrow.Rule.Slice.Shared.{by_size}
use Rattle.refusal.specs.declared.Refusal.{Refusal}
use Rattle.finder.specs.Stretch.{PartOf, InRun}
use Rattle.std.proofs.Common.{Ok, Err}
use Rattle.refusal.specs.Refused.{Answered}

pub start_fits : (run : List ℕ) (answer : Answered ℕ) (start : ℕ) → answer ≡ Ok start → InRun answer run → start + 64 ≤ length run
start_fits run answer start e h = rw e at h.fits

module _ (run : Bor (List ℕ)) (answer : Answered ℕ) where
  pub is_part : (start : ℕ) → answer ≡ Ok start → PartOf run (sl_partˢ run (by_size 2 start run.ref_ptr.1) start (start + 64)) answer
  is_part start e =
      let n : start + 64 - start ≡ 64 = omega arith in
      rw (e, n) (record { tones = refl; block = refl; place = refl })

  pub no_part : (r : Refusal) → answer ≡ Err r → PartOf run (sl_partˢ run (by_size 2 0 run.ref_ptr.1) 0 0) answer
  no_part r e = rw e (record { tones = refl; block = refl; place = refl })
