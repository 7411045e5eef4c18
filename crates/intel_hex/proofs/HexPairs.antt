-- Two causes at once, by computation.
use Rattle.std.proofs.Common.{refl}
use Rattle.crc.specs.Crc as crc
use Rattle.digits.specs.Digits.{hex_digit, hex_value}
use Rattle.record.specs.Record.{addressed_of, ordered_of, judged_among}
use Rattle.intel_hex.specs.Line.{formed_of, sums_to_zero, expected_of, checked_line_of}
use Rattle.intel_hex.specs.Export.{both_accepted, export_answer}
use Rattle.intel_hex.specs.Import.{whole_text, import_answer}
use Rattle.intel_hex.specs.HexPairs.{ExportAlone, ExportImageFirst, ImportAlone, ImportFormFirst, ImportSumFirst, ImportRecordFirst}
use Rattle.intel_hex.specs.HexPairs.{ImportLineFirst, ImportWholeFirst}

pub export_alone : ExportAlone
unfolding export_answer both_accepted judged_among addressed_of ordered_of crc.bit_of crc.eight_of crc.next_of
export_alone = refl

pub export_image_first : ExportImageFirst
unfolding export_answer both_accepted judged_among addressed_of ordered_of crc.bit_of crc.eight_of crc.next_of
export_image_first = refl

pub import_alone : ImportAlone
unfolding import_answer whole_text checked_line_of formed_of sums_to_zero expected_of hex_digit hex_value
import_alone = refl

pub import_form_first : ImportFormFirst
unfolding import_answer whole_text checked_line_of formed_of sums_to_zero expected_of hex_digit hex_value
import_form_first = refl

pub import_sum_first : ImportSumFirst
unfolding import_answer whole_text checked_line_of formed_of sums_to_zero expected_of hex_digit hex_value
import_sum_first = refl

pub import_record_first : ImportRecordFirst
unfolding import_answer whole_text checked_line_of formed_of sums_to_zero expected_of hex_digit hex_value
import_record_first = refl

pub import_line_first : ImportLineFirst
unfolding import_answer whole_text checked_line_of formed_of sums_to_zero expected_of hex_digit hex_value
import_line_first = refl

pub import_whole_first : ImportWholeFirst
unfolding import_answer whole_text checked_line_of formed_of sums_to_zero expected_of hex_digit hex_value
import_whole_first = refl
