-- Demand 3 of a trial is demand 3 of what C is told of it.
use mathlib.Core.Path.{◌≡◌, sym, ◌∙◌, ap}
use mathlib.Core.List.{List}
use mathlib.Core.Logic.{⊎_elim, inl, inr}
use Prim.Native.Nat.{ℕ}
use native.Mathlib.Omega.{arith}
use lib.ListN.{length}
use Rattle.lists.specs.Caps.{capped}
use Rattle.block_decoder.specs.Decoding.{lead_in, decode_block}
use Rattle.block_decoder.specs.declared.BlockDecoded.{BlockDecoded}
use Rattle.demands.specs.Demand.{Gives, RefusesAsUnclear, MeetsDemand3}
use Rattle.demands.specs.declared.Trial.{Trial}
use Rattle.trial.specs.Tried.{trial_of, Tried}
use Rattle.told.specs.Told.{counted_told}
use Rattle.told.proofs.Kept.{small_kept}
use Rattle.olivia.specs.Told.{trial_told}
use Rattle.olivia.specs.Tried.{GivesForC, RefusesForC, MeetsDemand3ForC, TriedForC}
use Rattle.olivia.specs.declared.TrialAnswers.{TrialAnswers}
use Rattle.refusal.specs.Refused.{Answered, number_of}

module _ (b m : ℕ) (text out out' : List ℕ) (d : BlockDecoded) where
  pub gives_told : Gives b text d out out' → GivesForC b text (counted_told d.answer) out out'
  gives_told g = record {
    number = ap (λ (a : Answered ℕ). (counted_told a).number) g.accepted;
    count = ap (λ (a : Answered ℕ). (counted_told a).count) g.accepted;
    written = g.written;
  }

  pub refuses_told : RefusesAsUnclear b m d out out' → RefusesForC b m d.characters (counted_told d.answer) out out'
  unfolding number_of
  refuses_told u =
      let place : (counted_told d.answer).place ≡ u.place = ap (λ (a : Answered ℕ). (counted_told a).place) u.refused in
      let lead : (counted_told d.answer).lead ≡ lead_in d.characters u.place = ap (λ (a : Answered ℕ). (counted_told a).lead) u.refused in
      record {
        number = ap (λ (a : Answered ℕ). (counted_told a).number) u.refused;
        inside = omega (arith, u.inside);
        lead = lead ∙ ap (lead_in d.characters) (sym place);
        unclear = omega (arith, u.unclear);
        lowest = λ q l. u.lowest q (omega arith);
        kept = u.kept;
      }

module _ (b m : ℕ) (text heard tones tones' one one' two two' : List ℕ) (t : Trial) where
  demand_told : MeetsDemand3 b m text t tones tones' one one' two two'
      → MeetsDemand3ForC b m text t.second.characters (trial_told t) tones tones' one one' two two'
  unfolding trial_told
  demand_told d =
      let r : capped t.replaced ≡ t.replaced = small_kept t.replaced (omega (arith, d.places)) in
      let u : capped t.missing ≡ t.missing = small_kept t.missing (omega (arith, d.places)) in
      record {
        accepted = ap (λ (e : Answered ℕ). (counted_told e).number) d.accepted;
        count = ap (λ (e : Answered ℕ). (counted_told e).count) d.accepted;
        sent = d.sent;
        first = gives_told b m text one one' t.first d.first;
        places = omega (arith, d.places);
        same = λ g. gives_told b m text two two' t.second (d.same (omega arith));
        no_other = λ g.
            ⊎_elim (λ x. inl (gives_told b m text two two' t.second x)) (λ x. inr (refuses_told b m text two two' t.second x)) (d.no_other (omega arith));
      }

  pub tried_told : (r : TrialAnswers) → r ≡ trial_told t → Tried b m text heard t tones tones' one one' two two'
      → TriedForC b m text heard r tones tones' one one' two two'
  unfolding trial_of
  tried_told r e tried =
      let second : (decode_block b m heard (length two)).characters ≡ t.second.characters = ap (λ (x : Trial). x.second.characters) (sym tried.answers) in
      record {
        answers = e ∙ ap trial_told tried.answers;
        sent = tried.sent;
        first_heard = tried.first_heard;
        second_heard = tried.second_heard;
        demand = λ c. rw (e, second) (demand_told (tried.demand c));
      }
