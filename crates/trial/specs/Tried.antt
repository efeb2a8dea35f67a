-- What the three calls of a trial answer and leave in their outputs, and that demand 3 holds of it. Names are as in `Demand`.
use Rattle.std.specs.Prelude.{◌≡◌, List, ℕ, length}
use Rattle.block_encoder.specs.Encoding.{encode_block, encoded_into}
use Rattle.block_decoder.specs.Decoding.{decode_block, decoded_into}
use Rattle.demands.specs.Demand.{missing_in, replaced_in, Covered, MeetsDemand3}
use Rattle.demands.specs.Laws.{air}
use Rattle.demands.specs.declared.Trial.{Trial}

unfoldable pub trial_of : ℕ → ℕ → List ℕ → List ℕ → List ℕ → List ℕ → List ℕ → Trial
trial_of b m text heard tones one two = record {
  encoded = encode_block b text (length tones);
  first = decode_block b m (air b text tones) (length one);
  second = decode_block b m heard (length two);
  replaced = replaced_in (air b text tones) heard;
  missing = missing_in heard;
}

-- the promise of a trial: the whole answer and every output, and demand 3 of them
pub record Tried (b m : ℕ) (text heard : List ℕ) (t : Trial) (tones tones' one one' two two' : List ℕ) : Type 0 where
  pub answers : t ≡ trial_of b m text heard tones one two
  pub sent : tones' ≡ encoded_into b text tones
  pub first_heard : one' ≡ decoded_into b m (air b text tones) one
  pub second_heard : two' ≡ decoded_into b m heard two
  pub demand : Covered b m text heard tones one two → MeetsDemand3 b m text t tones tones' one one' two two'
