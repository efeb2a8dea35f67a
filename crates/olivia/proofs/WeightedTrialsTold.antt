-- Demand 3 of a trial with weights is demand 3 of what C is told of it.
use mathlib.Core.Path.{◌≡◌, sym, ◌∙◌, ap}
use mathlib.Core.List.{List}
use mathlib.Core.Logic.{⊎_elim, inl, inr}
use Prim.Native.Nat.{ℕ}
use lib.ListN.{length}
use Rattle.block_decoder.specs.Decoding.{decode_weighted}
use Rattle.weighted_demands.specs.Demand.{MeetsWeightedDemand3}
use Rattle.weighted_demands.specs.declared.WeightedTrial.{WeightedTrial}
use Rattle.trial.specs.WeightedTried.{weighted_trial_of, WeightedTried}
use Rattle.told.specs.Told.{counted_told}
use Rattle.olivia.specs.Told.{weighted_trial_told}
use Rattle.olivia.specs.WeightedTried.{MeetsWeightedDemand3ForC, WeightedTriedForC}
use Rattle.olivia.specs.declared.WeightedTrialAnswers.{WeightedTrialAnswers}
use Rattle.olivia.proofs.TrialsTold.{gives_told, refuses_told}
use Rattle.refusal.specs.Refused.{Answered}

module _ (b m : ℕ) (text heard weights tones tones' one one' two two' : List ℕ) (t : WeightedTrial) where
  demand_told : MeetsWeightedDemand3 b m text t tones tones' one one' two two'
      → MeetsWeightedDemand3ForC b m text t.second.characters (weighted_trial_told t) tones tones' one one' two two'
  unfolding weighted_trial_told
  demand_told d = record {
    accepted = ap (λ (e : Answered ℕ). (counted_told e).number) d.accepted;
    count = ap (λ (e : Answered ℕ). (counted_told e).count) d.accepted;
    sent = d.sent;
    first = gives_told b m text one one' t.first d.first;
    same = λ g. gives_told b m text two two' t.second (d.same g);
    no_other = λ g. ⊎_elim (λ x. inl (gives_told b m text two two' t.second x)) (λ x. inr (refuses_told b m text two two' t.second x)) (d.no_other g);
  }

  pub weighted_tried_told : (r : WeightedTrialAnswers) → r ≡ weighted_trial_told t → WeightedTried b m text heard weights t tones tones' one one' two two'
      → WeightedTriedForC b m text heard weights r tones tones' one one' two two'
  unfolding weighted_trial_of
  weighted_tried_told r e tried =
      let second : (decode_weighted b m heard weights (length two)).characters ≡ t.second.characters = ap (λ (x : WeightedTrial). x.second.characters) (sym tried.answers) in
      record {
        answers = e ∙ ap weighted_trial_told tried.answers;
        sent = tried.sent;
        first_heard = tried.first_heard;
        second_heard = tried.second_heard;
        demand = λ c. rw (e, second) (demand_told (tried.demand c));
      }
