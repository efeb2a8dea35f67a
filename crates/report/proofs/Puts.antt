-- Texts of a listing put at the front of an output, or nothing if its room is short.
use mathlib.Core.Bool.{Bool, true, false, cond}
use mathlib.Core.List.{List, []}
use Prim.Native.Nat.{ℕ, ◌<◌, ◌≤◌}
use borrow.Author.Tests.{le-leb, lt-leb}
use lib.Dec.{leb}
use lib.ListN.{length}
use Rattle.text.proofs.Puts.{Put, put_none}
use Rattle.report.specs.Output.{fitting}

-- nothing is put where the room is short
pub put_short : (text out : List ℕ) → length out < 1024 → Put (fitting text (length out)) out 0 out
unfolding fitting
put_short text out h = rw (lt-leb 1024 (length out) h) (put_none out)

pub put_nothing : (out : List ℕ) → Put (fitting [] (length out)) out 0 out
unfolding fitting
put_nothing out = by (leb 1024 (length out))
  where
    by : (t : Bool) → Put (cond t [] []) out 0 out
    by true = put_none out
    by false = put_none out

pub put_fitting : (text out : List ℕ) {n : ℕ} {after : List ℕ} → 1024 ≤ length out → Put text out n after → Put (fitting text (length out)) out n after
unfolding fitting
put_fitting text out h put = rw (le-leb 1024 (length out) h) put

pub put_roomy : (text out : List ℕ) {n : ℕ} {after : List ℕ} → 1024 ≤ length out → Put (fitting text (length out)) out n after → Put text out n after
unfolding fitting
put_roomy text out h put = rw (le-leb 1024 (length out) h) at put
