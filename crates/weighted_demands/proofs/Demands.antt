-- Demand 2 and demand 3 with weights: what holds for any greatest weight, at 15.
use native.Mathlib.Omega.{arith}
use lib.ListN.{length}
use Rattle.walsh.proofs.Sizes.{corr_within}
use Rattle.block_encoder.proofs.EncodeCases.{tones_written}
use Rattle.block_decoder.specs.Decoding.{symbols_of, count_in, weighted_at}
use Rattle.block_decoder.proofs.Counts.{count_within}
use Rattle.block_decoder.proofs.DecodeCases.{Passed}
use Rattle.decision.proofs.Choice.{decision_law, nearest}
use Rattle.walsh.specs.Words.{corr}
use Rattle.decision.specs.Decision.{decision}
use Rattle.demands.proofs.Sent.{sends}
use Rattle.demands.proofs.Answers.{precisely}
use Rattle.demands.proofs.Demands.{same_text, no_other_text, sent_text}
use Rattle.weighted_demands.specs.Demand.{WeightedDemand3}
use Rattle.weighted_demands.specs.Laws.{WeightedClear, WeightedRange}

pub weighted_demand3 : WeightedDemand3
weighted_demand3 = record {
  met = λ b m text heard weights tones one two c.
      let s = c.settings in
      let sent = sends b text tones s.mode c.codes c.room_sent in
      let p : Passed 15 b m (length heard) (length weights) (length two) =
      record { mode = s.mode; lead = s.lead; count = c.damaged.count; weighed = c.weighed.count; fits = c.room_two } in
      record {
        accepted = sent;
        sent = tones_written b text tones sent;
        first = sent_text 15 b m text one s.mode s.lead c.codes c.room_one;
        same = same_text 15 b m text heard weights two p c.codes c.damaged c.weighed;
        no_other = no_other_text 15 b m text heard weights two p c.codes c.damaged c.weighed;
      };
}

pub weighted_clear : WeightedClear
weighted_clear = record {
  precisely = λ b m tones weights codes s w h room.
      precisely 15 b m tones weights codes (record { mode = s.mode; lead = s.lead; count = w.count; weighed = h.count; fits = room }) w h;
}

pub weighted_range : WeightedRange
unfolding weighted_at
weighted_range = record {
  correlations = λ b tones weights q c h. corr_within 15 (count_in b (symbols_of tones) weights q) c (λ t l. omega (arith, count_within b (symbols_of tones) weights q t, h.each t l));
  leads = λ b tones weights q h.
      let r = corr (count_in b (symbols_of tones) weights q) in
      omega (
        arith,
        nearest (decision_law.chosen r),
        corr_within 15 (count_in b (symbols_of tones) weights q) (decision r).word (λ t l. omega (arith, count_within b (symbols_of tones) weights q t, h.each t l)),
      );
}
