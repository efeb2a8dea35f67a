-- Document 01's example, by computing.
use mathlib.Core.Path.{refl}
use lib.Count.{ones}
use Rattle.lists.specs.Lists.{tab, every, over}
use Rattle.text.specs.Ascii.{ascii}
use Rattle.text.specs.Decimal.{value_from, digits, decimal, signed_decimal, field, signed_field}
use Rattle.reader_laws.specs.Input.{on_first, lines, parts, words, is_number, is_mark, is_word, is_readable_first, is_readable, value_of, values_of}
use Rattle.lists.specs.Sums.{sum}
use Rattle.walsh.specs.Words.{minus, corr}
use Rattle.decision.specs.Decision.{better, best, other, runner_up, decision_for, decision}
use Rattle.lists.specs.Places.{scan}
use Rattle.chain.specs.Chain.{key_bit, gray}
use Rattle.chain.specs.Tables.{symbol_of}
use Rattle.weight_range.specs.Range.{throughout, first_bad_weight}
use Rattle.block_decoder.specs.Decoding.{heard_symbol, count_of, count_in, symbols_of, weighted_at, weighted_of, first_unclear, unless_unclear, padded, heard_block}
use Rattle.tone_range.specs.Range.{first_bad_tone}
use Rattle.report.specs.Output.{heading, unreadable_text, end_text}
use Rattle.block_report.specs.Lines.{place_text, decided_text, word_text, words_text, character_text, characters_text, answer_text, block_text}
use Rattle.listing_laws.specs.Listed.{block_heard, blocks_listed, checked_listed, lines_listed, listed}
use Rattle.listing_laws.specs.Laws.{Example}

pub example : Example
unfolding ones tab sum minus corr better best other runner_up decision_for decision over scan key_bit gray symbol_of heard_symbol count_of count_in symbols_of throughout weighted_at weighted_of first_unclear unless_unclear padded first_bad_tone first_bad_weight heard_block on_first lines parts words every value_from is_number is_mark is_word is_readable_first is_readable value_of values_of ascii digits decimal signed_decimal field signed_field heading place_text decided_text word_text words_text character_text characters_text unreadable_text end_text answer_text block_text block_heard blocks_listed checked_listed lines_listed listed
example = record { key_bits = refl; empty = refl }
