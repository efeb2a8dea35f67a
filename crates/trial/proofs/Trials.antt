-- The three calls of a trial come to its promise, demand 3 among it.
use mathlib.Core.Path.{◌≡◌, refl}
use mathlib.Core.List.{List}
use Prim.Native.Nat.{ℕ}
use lib.ListN.{length}
use Rattle.refusal.specs.Refused.{Answered}
use Rattle.block_encoder.specs.Encoding.{encode_block, encoded_into}
use Rattle.block_decoder.specs.Decoding.{decode_block, decoded_into}
use Rattle.block_decoder.specs.declared.BlockDecoded.{BlockDecoded}
use Rattle.demands.specs.Demand.{missing_in, replaced_in}
use Rattle.demands.specs.Laws.{air}
use Rattle.demands.proofs.Sent.{sends, air_sent}
use Rattle.demands.proofs.Demands.{demand3}
use Rattle.trial.specs.Tried.{trial_of, Tried}

-- the tones that the first receiver hears are `on`
pub tried : {b m : ℕ} {text heard tones one two tones' one' two' on : List ℕ} {sent : Answered ℕ} {first second : BlockDecoded} {r u : ℕ}
    → sent ≡ encode_block b text (length tones)
    → tones' ≡ encoded_into b text tones
    → on ≡ air b text tones
    → r ≡ replaced_in on heard
    → u ≡ missing_in heard
    → first ≡ decode_block b m on (length one)
    → one' ≡ decoded_into b m on one
    → second ≡ decode_block b m heard (length two)
    → two' ≡ decoded_into b m heard two
    → Tried b m text heard (record { encoded = sent; first = first; second = second; replaced = r; missing = u }) tones tones' one one' two two'
unfolding trial_of
tried {b} {m} {text} {heard} {tones} {one} {two} answer output cut replaced missing first given second heard-as =
    record {
      answers = rw (answer, replaced, missing, first, second, cut) refl;
      sent = output;
      first_heard = rw cut at given;
      second_heard = heard-as;
      demand = λ c.
          let sent = air_sent b text tones (sends b text tones c.settings.mode c.codes c.room_sent) in
          rw (answer, output, replaced, missing, first, given, second, heard-as, cut, sent)
          (demand3.met b m text heard tones one two c);
    }
