use Rattle.weight_range.specs.Range.{throughout}
use Rattle.trial.proofs.SentTones.{sent_fits, sent_cut, sent_is}
use Rattle.trial.proofs.WeightedTrials.{weighted_tried}
use Rattle.trial.proofs.run_weighted.Goals as goal

pub slice_bounds-sent-end : goal.slice_bounds-sent-end
slice_bounds-sent-end c = sent_fits c.args.mode c.args.text.now c.args.tones.now c.encode_block-encoded.ensures.answer c.encode_block-encoded.ensures.output c.unwrap_or.ensures

pub slice_bounds-sent-end-2 : goal.slice_bounds-sent-end-2
slice_bounds-sent-end-2 c = sent_cut c.args.mode c.args.text.now c.args.tones.now c.encode_block-encoded.ensures.answer c.encode_block-encoded.ensures.output c.unwrap_or.ensures

pub returns : goal.returns
unfolding throughout
returns c =
    let answer = c.encode_block-encoded.ensures.answer in
    let output = c.encode_block-encoded.ensures.output in
    weighted_tried answer output (sent_is c.args.mode c.args.text.now c.args.tones.now answer output c.unwrap_or.ensures)
    c.damage_in-damage.ensures
    c.decode_weighted-first.ensures.answer c.decode_weighted-first.ensures.output
    c.decode_weighted-second.ensures.answer c.decode_weighted-second.ensures.output
