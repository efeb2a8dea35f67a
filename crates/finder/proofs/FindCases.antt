-- `found_start`, `find_block` and `found_into`: an equation for each answer, under the checks that lead to it, and back.
use mathlib.Core.Path.{◌≡◌, refl, sym, ◌∙◌, ap}
use mathlib.Core.Bool.{Bool, true, false, cond, not}
use mathlib.Core.List.{List}
use Prim.Native.Nat.{ℕ, ◌+◌, ◌-◌, ◌<◌, ◌≤◌, ◌^◌}
use native.Mathlib.Decide.{dec_lt}
use native.Mathlib.Omega.{arith}
use borrow.Author.Tests.{lt-ltb, le-ltb, ltb-true, ltb-false, not-false}
use lib.Dec.{ltb, lit≤}
use lib.ListN.{length, take, drop, replicate}
use Rattle.refusal.specs.declared.Refusal.{Refusal}
use Rattle.refusal.specs.Refused.{Answered, number_of, refused_at}
use Rattle.refusal.specs.Checks.{is_mode, is_lead, IsSet}
use Rattle.decision.specs.Decision.{none}
use Rattle.tone_range.specs.Range.{first_bad_tone}
use Rattle.block_decoder.specs.Decoding.{decode_block, decoded_into}
use Rattle.block_decoder.specs.declared.BlockDecoded.{BlockDecoded}
use Rattle.search.specs.Starts.{starts}
use Rattle.finder.specs.declared.BlockFound.{BlockFound}
use Rattle.finder.specs.Finding.{first_start, is_run, found_start, records_of, find_block, written_at, found_into}
use Rattle.finder.specs.Stretch.{InRun}
use Rattle.finder.proofs.Parts.{start_fits}
use Rattle.finder.proofs.Starts.{stretch_part}
use Rattle.std.specs.Option.{ok_or}
use Rattle.std.proofs.Common.{Ok, Err}
use Rattle.lists.specs.Found.{found}
use Rattle.lists.proofs.Found.{found_at, found_past}
use Rattle.refusal.specs.declared.Reason.{Reason}

-- what the checks before the tones' range leave
pub record Passed (b m : ℕ) (run : List ℕ) (room : ℕ) : Type 0 where
  pub settings : IsSet b m
  pub count : is_run run ≡ true
  pub fits : b ≤ room

module _ (b m : ℕ) (run : List ℕ) (room : ℕ) where
  pub refuses_mode : is_mode b ≡ false → found_start b m run room ≡ Err (refused_at Reason.Mode 0)
  unfolding found_start
  refuses_mode e = simp e

  pub refuses_lead : is_mode b ≡ true → is_lead m ≡ false → found_start b m run room ≡ Err (refused_at Reason.LeastLead 0)
  unfolding found_start
  refuses_lead e f = simp (e, f)

  module _ (s : IsSet b m) where
    pub refuses_count : is_run run ≡ false → found_start b m run room ≡ Err (refused_at Reason.ToneCount 0)
    unfolding found_start
    refuses_count h = simp (s.mode, s.lead, h)

    pub refuses_room : is_run run ≡ true → room < b → found_start b m run room ≡ Err (refused_at Reason.Room 0)
    unfolding found_start
    refuses_room n h = simp (s.mode, s.lead, n, lt-ltb room b h)

  module _ (p : Passed b m run room) where
    -- what is left to check
    in_range : found_start b m run room
        ≡ cond (ltb (first_bad_tone (2 ^ b) run) (length run)) (Err (refused_at Reason.Tone (first_bad_tone (2 ^ b) run)))
        (cond (ltb (first_start b m run room) (starts run)) (Ok (first_start b m run room)) (Err (refused_at Reason.NotFound 0)))
    unfolding found_start
    in_range = simp (p.settings.mode, p.settings.lead, p.count, le-ltb room b p.fits)

    pub refuses_tone : first_bad_tone (2 ^ b) run < length run → found_start b m run room ≡ Err (refused_at Reason.Tone (first_bad_tone (2 ^ b) run))
    refuses_tone h = rw (lt-ltb (first_bad_tone (2 ^ b) run) (length run) h) at in_range

    module _ (good : length run ≤ first_bad_tone (2 ^ b) run) where
      pub tells_start : first_start b m run room < starts run → found_start b m run room ≡ Ok (first_start b m run room)
      tells_start h = rw (le-ltb (first_bad_tone (2 ^ b) run) (length run) good, lt-ltb (first_start b m run room) (starts run) h) at in_range

      pub tells_none : starts run ≤ first_start b m run room → found_start b m run room ≡ Err (refused_at Reason.NotFound 0)
      tells_none h = rw (le-ltb (first_bad_tone (2 ^ b) run) (length run) good, le-ltb (first_start b m run room) (starts run) h) at in_range

      -- the start that the search finds, or that it finds none
      pub tells : ok_or (found (starts run) (first_start b m run room)) (refused_at Reason.NotFound 0) ≡ found_start b m run room
      tells = by (dec_lt (first_start b m run room) (starts run))
        where
          by : Dec (first_start b m run room < starts run) → ok_or (found (starts run) (first_start b m run room)) (refused_at Reason.NotFound 0) ≡ found_start b m run room
          by (yes l) = rw (found_at (starts run) (first_start b m run room) l) (sym (tells_start l))
          by (no g) = let past : starts run ≤ first_start b m run room = omega arith in rw (found_past (starts run) (first_start b m run room) past) (sym (tells_none past))

-- ---- an answer of the search passed every check

abbrev answer_number : Answered ℕ → ℕ
answer_number (Ok start) = 0
answer_number (Err r) = number_of r.reason

passes : (t : Bool) (reason : Reason) (place : ℕ) (y z : Answered ℕ) → cond t (Err (refused_at reason place)) y ≡ z → (Err (refused_at reason place) ≡ z → ⊥) → (t ≡ false) × (y ≡ z)
passes true reason place y z e n = absurd (n e)
passes false reason place y z e n = (refl, e)

pub record Searched (b m : ℕ) (run : List ℕ) (room : ℕ) (z : Answered ℕ) : Type 0 where
  pub passed : Passed b m run room
  pub good : length run ≤ first_bad_tone (2 ^ b) run
  pub by : cond (ltb (first_start b m run room) (starts run)) (Ok (first_start b m run room)) (Err (refused_at Reason.NotFound 0)) ≡ z

searched : (b m : ℕ) (run : List ℕ) (room : ℕ) (z : Answered ℕ) → found_start b m run room ≡ z → ((reason : Reason) (place : ℕ) → number_of reason < 13 → Err (refused_at reason place) ≡ z → ⊥)
    → Searched b m run room z
unfolding found_start number_of
searched b m run room z e n =
    let p1 = passes _ Reason.Mode _ _ _ e (n Reason.Mode 0 (lit≤ tt)) in
    let p2 = passes _ Reason.LeastLead _ _ _ p1.1 (n Reason.LeastLead 0 (lit≤ tt)) in
    let p3 = passes _ Reason.ToneCount _ _ _ p2.1 (n Reason.ToneCount 0 (lit≤ tt)) in
    let p4 = passes _ Reason.Room _ _ _ p3.1 (n Reason.Room 0 (lit≤ tt)) in
    let p5 = passes _ Reason.Tone _ _ _ p4.1 (n Reason.Tone (first_bad_tone (2 ^ b) run) (lit≤ tt)) in
    record {
      passed = record {
        settings = record { mode = not-false _ p1.0; lead = not-false _ p2.0 };
        count = not-false _ p3.0;
        fits = ltb-false room b p4.0;
      };
      good = ltb-false (first_bad_tone (2 ^ b) run) (length run) p5.0;
      by = p5.1;
    }

pub start_searched : (b m : ℕ) (run : List ℕ) (room start : ℕ) → found_start b m run room ≡ Ok start → Searched b m run room (Ok start)
start_searched b m run room start e = searched b m run room (Ok start) e (λ reason place h f. absurd cc)

pub none_searched : (b m : ℕ) (run : List ℕ) (room : ℕ) → found_start b m run room ≡ Err (refused_at Reason.NotFound 0) → Searched b m run room (Err (refused_at Reason.NotFound 0))
unfolding number_of
none_searched b m run room e = searched b m run room (Err (refused_at Reason.NotFound 0)) e (λ reason place h f. let z : number_of reason ≡ 13 = ap answer_number f in omega arith)

-- ---- a start that is told leaves 64 tones

module _ (run : List ℕ) where
  refused_inside : (r : Refusal) → InRun (Err r) run
  refused_inside r = record { fits = omega arith }

  refused_or : (t : Bool) (r : Refusal) (y : Answered ℕ) → InRun y run → InRun (cond t (Err r) y) run
  refused_or true r y h = refused_inside r
  refused_or false r y h = h

  start_or : (start : ℕ) (t : Bool) (r : Refusal) → ltb start (starts run) ≡ t → InRun (cond t (Ok start) (Err r)) run
  start_or start true r e = record { fits = omega (arith, ltb-true start (starts run) e) }
  start_or start false r e = refused_inside r

found_inside : (b m : ℕ) (run : List ℕ) (room : ℕ) → InRun (found_start b m run room) run
unfolding found_start
found_inside b m run room =
    refused_or run (not (is_mode b)) (refused_at Reason.Mode 0) _
    (refused_or run (not (is_lead m)) (refused_at Reason.LeastLead 0) _
    (refused_or run (not (is_run run)) (refused_at Reason.ToneCount 0) _
    (refused_or run (ltb room b) (refused_at Reason.Room 0) _
    (refused_or run (ltb (first_bad_tone (2 ^ b) run) (length run)) (refused_at Reason.Tone (first_bad_tone (2 ^ b) run)) _
    (start_or run (first_start b m run room) (ltb (first_start b m run room) (starts run)) (refused_at Reason.NotFound 0) refl)))))

pub found_fits : (b m : ℕ) (run : List ℕ) (room : ℕ) (answer : Answered ℕ) (start : ℕ) → answer ≡ found_start b m run room → answer ≡ Ok start
    → start + 64 ≤ length run
found_fits b m run room answer start e t = start_fits run answer start t (rw e (found_inside b m run room))

pub answer_inside : (b m : ℕ) (run : List ℕ) (room : ℕ) (d : BlockFound) → d ≡ find_block b m run room → InRun d.answer run
unfolding find_block
answer_inside b m run room d e = rw e (found_inside b m run room)

-- ---- the records and the output by the answer

module _ (b m : ℕ) (run codes : List ℕ) (answer : Answered ℕ) (e : answer ≡ found_start b m run (length codes)) where
  pub finds : (start : ℕ) (d : BlockDecoded) (out : List ℕ) → answer ≡ Ok start
      → d ≡ decode_block b m (take (start + 64 - start) (drop start run)) (length codes)
      → out ≡ decoded_into b m (take (start + 64 - start) (drop start run)) codes
      → (◌≡◌ {A = BlockFound} (record { answer = Ok start; characters = d.characters }) (find_block b m run (length codes))) × (out ≡ found_into b m run codes)
  unfolding find_block records_of found_into written_at
  finds start d out t p q = rw (← e, t) (rw (p, stretch_part run start) refl, q ∙ rw (stretch_part run start) refl)

  pub refuses : (r : Refusal) → answer ≡ Err r
      → (◌≡◌ {A = BlockFound} (record { answer = answer; characters = replicate 8 none }) (find_block b m run (length codes))) × (codes ≡ found_into b m run codes)
  unfolding find_block records_of found_into written_at
  refuses r t = rw (← e, t) (refl, refl)
