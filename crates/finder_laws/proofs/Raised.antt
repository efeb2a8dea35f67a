-- Raising m on a run: a start that is found is found at a smaller m too, or an earlier one is.
use mathlib.Core.Path.{◌≡◌, sym, ◌∙◌, ap}
use mathlib.Core.List.{List}
use Prim.Native.Nat.{ℕ, ◌<◌, ◌≤◌}
use native.Mathlib.Decide.{dec_lt}
use native.Mathlib.Omega.{arith}
use lib.ListN.{length}
use Rattle.refusal.specs.declared.Refusal.{Refusal}
use Rattle.refusal.specs.Refused.{refused_at}
use Rattle.refusal.proofs.Limits.{within_true}
use Rattle.block_decoder.specs.Decoding.{plain}
use Rattle.block_decoder.specs.declared.BlockDecoded.{BlockDecoded}
use Rattle.search.specs.Starts.{stretch_at, starts}
use Rattle.finder.specs.Finding.{first_start, find_block}
use Rattle.finder.proofs.FindCases.{Passed, tells_start, tells_none, Searched, start_searched, none_searched}
use Rattle.lead_laws.proofs.Raises as block
use Rattle.finder_laws.specs.Laws.{FoundBy, RaisedLead}
use Rattle.finder_laws.proofs.FirstBlocks.{found_by, first_block}
use Rattle.std.proofs.Common.{Ok, Err}
use Rattle.refusal.specs.declared.Reason.{Reason}

start_refused : {start : ℕ} {r : Refusal} → Ok start ≡ Err r → ⊥
start_refused e = let z : ◌≡◌ {A = ℕ} 0 1 = cc in omega arith

-- the checks that are passed at some m are passed at another
passed_at : {b m : ℕ} {run : List ℕ} {room : ℕ} (k : ℕ) → 1 ≤ k → k ≤ 64 → Passed b m run room → Passed b k run room
passed_at k low high p = record { settings = record { mode = p.settings.mode; lead = within_true 1 64 k low high }; count = p.count; fits = p.fits }

module _ (b m m' : ℕ) (run codes : List ℕ) (low : 1 ≤ m) (h : m ≤ m') (high : m' ≤ 64) where
  raised_found : (start : ℕ) → (find_block b m' run (length codes)).answer ≡ Ok start → FoundBy b m run codes start
  unfolding find_block
  raised_found start e =
      let first = first_block.found b m' run codes start e in
      let s = start_searched b m' run (length codes) start e in
      let stays = ((block.raised_lead).raised 1 b m m' (stretch_at run start) plain codes low h high).same_text b first.accepted in
      found_by b m run codes (passed_at m low (omega arith) s.passed) s.good start first.inside
      (sym (ap (λ (d : BlockDecoded). d.answer) stays.answer) ∙ first.accepted)

  raised_none : (find_block b m run (length codes)).answer ≡ Err (refused_at Reason.NotFound 0) → (find_block b m' run (length codes)).answer ≡ Err (refused_at Reason.NotFound 0)
  unfolding find_block
  raised_none e = by (dec_lt (first_start b m' run (length codes)) (starts run))
    where
      s : Searched b m run (length codes) (Err (refused_at Reason.NotFound 0))
      s = none_searched b m run (length codes) e

      p : Passed b m' run (length codes)
      p = passed_at m' (omega arith) high s.passed

      by : Dec (first_start b m' run (length codes) < starts run) → (find_block b m' run (length codes)).answer ≡ Err (refused_at Reason.NotFound 0)
      by (yes l) =
          let earlier = raised_found _ (tells_start b m' run (length codes) p s.good l) in
          absurd (start_refused (sym earlier.found ∙ e))
      by (no g) = tells_none b m' run (length codes) p s.good (omega arith)

pub raised_lead : RaisedLead
raised_lead = record {
  found = λ b m m' run codes start low h high. raised_found b m m' run codes low h high start;
  none = raised_none;
}
