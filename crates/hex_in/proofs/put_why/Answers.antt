-- `hex_in::put_why` meets its contract.
use mathlib.Core.Path.{◌≡◌}
use mathlib.Core.List.{List}
use Prim.Native.Nat.{ℕ}
use Rattle.streams.specs.declared.Said.{Said}
use Rattle.streams.specs.Streams.{Saying, error, refused_text}
use Rattle.intel_hex.specs.declared.Gap.{Gap}
use Rattle.hex_in.specs.HexIn.{gap_words}
use Rattle.hex_in.proofs.Laws.{line_said}
use Rattle.intel_hex.specs.Import.{text_lines}
use Rattle.hex_in.proofs.put_why.Goals as goal

gap-said : (number : ℕ) {gap known : Gap} {room after : List ℕ} {said : Said} → known ≡ gap
    → Saying (error (refused_text number (gap_words known))) room said after → Saying (error (refused_text number (gap_words gap))) room said after
gap-said number is words = rw is at words

pub returns-in-Some : goal.returns-in-Some
returns-in-Some c = line_said (text_lines c.args.text.now) c.in-Line.is c.in-Some.ensures.value c.from-number.ensures c.put_flaw.ensures

pub returns-in-None : goal.returns-in-None
returns-in-None c = line_said (text_lines c.args.text.now) c.in-Line.is c.in-None.ensures.value c.from-number.ensures c.put_refused.ensures
