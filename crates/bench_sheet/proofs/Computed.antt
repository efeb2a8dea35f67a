-- Every row passes its test, by computing.
use lib.Count.{ones, count_trailing_zeros}
use lib.Ieee.{odd}
use Rattle.lists.specs.Lists.{tab, over}
use Rattle.lists.specs.Sums.{total}
use Rattle.lists.specs.Places.{scan}
use Rattle.walsh.specs.Words.{minus}
use Rattle.walsh.specs.Transform.{butterfly}
use Rattle.walsh.specs.Internal.{step_of}
use Rattle.walsh.proofs.Sizes.{steps}
use Rattle.decision.specs.Decision.{better, best, other, runner_up, decision_for, decision}
use Rattle.chain.specs.Chain.{code_bit, key_bit, sent_bit, value_at, symbol_at, gray, tone_at, tones_of}
use Rattle.chain.specs.Tables.{symbol_of}
use Rattle.tone_range.specs.Range.{first_bad_tone}
use Rattle.block_encoder.specs.Encoding.{first_bad_code, encode_block, sent_into, encoded_into}
use Rattle.weight_range.specs.Range.{throughout}
use Rattle.block_decoder.specs.Decoding.{heard_symbol, count_of, count_in, symbols_of, codes_of, first_unclear, unless_unclear, padded}
use Rattle.demands.specs.Demand.{replaced_in, missing_in}
use Rattle.scaled.specs.Exact.{scaled}
use Rattle.band.specs.Limits.{fault}
use Rattle.band.specs.Frequencies.{edge512, spacing512, half512, tone512, hertz_of, frequency_of}
use Rattle.bench_sheet.specs.Heard.{case_1, evens_to, turned_to, missing_to, all_missing}
use Rattle.bench_sheet.specs.Sheet.{starred, Starred}
use Rattle.bench_sheet.proofs.Tests.{each_holds}

pub starred_law : Starred
unfolding ones count_trailing_zeros odd tab total minus butterfly step_of steps better best other runner_up decision_for decision over scan code_bit key_bit sent_bit value_at symbol_at gray tone_at tones_of first_bad_code encode_block sent_into encoded_into symbol_of heard_symbol count_of count_in symbols_of throughout codes_of first_unclear unless_unclear padded first_bad_tone replaced_in missing_in scaled fault edge512 spacing512 half512 tone512 hertz_of frequency_of case_1 evens_to turned_to missing_to all_missing
starred_law = record { each = each_holds starred tt }
