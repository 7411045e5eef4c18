-- The example that 01 prints, computed.
use mathlib.Core.Path.{refl}
use Rattle.record.specs.Record.{kind_of, taken_of}
use Rattle.runs.specs.Record.{whole_of, rec_of, size_of}
use Rattle.runs.specs.Run.{outcome_of}
use Rattle.runs.specs.SessionRecord.{did_of}
use Rattle.session_run.specs.SessionRun.{session_of}
use Rattle.digits.specs.Digits.{hex_of, shown_text, short_text, decimal_text}
use Rattle.text.specs.Line.{kind_text, reply_text, start_text, end_text}
use Rattle.text.specs.Text.{header_text, run_text}
use Rattle.session.specs.Example.{PrintedText}

pub example : PrintedText
unfolding header_text run_text outcome_of session_of did_of taken_of kind_of rec_of size_of whole_of hex_of shown_text short_text decimal_text kind_text
    reply_text
    start_text end_text
example = refl
