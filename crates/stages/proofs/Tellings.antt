-- The answer and the output of a function that tells what is said.
use mathlib.Core.Path.{◌≡◌, sym, ap, ◌∙◌, subst}
use mathlib.Core.List.{List, []}
use Prim.Native.Nat.{ℕ, ◌≤◌}
use native.Mathlib.Omega.{arith}
use borrow.Author.Tests.{le-leb}
use lib.ListN.{length}
use Rattle.lists.specs.Lists.{over}
use Rattle.lists.proofs.Fronts.{over_fits}
use Rattle.report.specs.Output.{fitting}
use Rattle.text.proofs.Puts.{Put}
use Rattle.report.proofs.Puts.{put_nothing}
use Rattle.stages.specs.declared.Progress.{Progress}
use Rattle.stages.specs.declared.Listing.{Listing}
use Rattle.stages.specs.Stages.{Said, told, told_in}

abbrev Tells : List ℕ → Said → Progress → List ℕ → Type 0
Tells out s r after = (r ≡ told_in (length out) s) × (after ≡ over (fitting s.text (length out)) out)

pub tells_as : (out : List ℕ) {s t : Said} {r : Progress} {after : List ℕ} → s ≡ t → Tells out t r after → Tells out s r after
tells_as out {r} {after} e h = subst (λ (x : Said). Tells out x r after) (sym e) h

-- a text was put, and the answer has its length
pub tells_text : (out text : List ℕ) {after : List ℕ} {next : Listing} {r : Progress} {n : ℕ}
    → r ≡ record { listing = next; written = n } → Put (fitting text (length out)) out n after → Tells out (record { text = text; next = next }) r after
tells_text out text {next} p put = (p ∙ ap (λ (k : ℕ). record { listing = next; written = k }) put.0, put.1)

-- no text was put
pub tells_nothing : (out : List ℕ) {next : Listing} {r : Progress} → r ≡ record { listing = next; written = 0 } → Tells out (record { text = []; next = next }) r out
tells_nothing out p = tells_text out [] p (put_nothing out)

-- an output with room has the whole text
pub tells_whole : (out : List ℕ) (s : Said) {r : Progress} {after : List ℕ} → 1024 ≤ length out → Tells out s r after → (r ≡ told s) × (after ≡ over s.text out)
unfolding fitting
tells_whole out s h t = rw (le-leb 1024 (length out) h) at t

-- what was written stands in the output
pub tells_fits : (out : List ℕ) (s : Said) {r : Progress} {after : List ℕ} → r ≡ told s → after ≡ over s.text out → r.written ≤ length after
tells_fits out s e f = omega (arith, ap (λ (p : Progress). p.written) e, ap length f, over_fits s.text out)
