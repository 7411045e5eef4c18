-- A session of three records, of the definitions: a power-on of a slot before any image, a kind that only plain sessions have, and a cut record.
use mathlib.Core.Path.{◌≡◌, refl}
use mathlib.Core.List.{List, [], ◌∷◌, ◌++◌}
use Prim.Native.Nat.{ℕ}
use Rattle.runs.specs.Record.{whole_of, rec_of, size_of}
use Rattle.runs.specs.Run.{outcome_of}
use Rattle.tray_record.specs.Tray.{tray_kind_of, tray_did}
use Rattle.tray_run.specs.TrayRun.{tray_lines}
use Rattle.digits.specs.Ascii.{ascii}
use Rattle.digits.specs.Digits.{hex_of, shown_text, short_text, decimal_text}
use Rattle.text.specs.Line.{kind_text, reply_text, start_text, end_text}
use Rattle.text.specs.Text.{header_text, run_text}
use Rattle.tray.specs.Tray.{tray_text}

abbrev pub input : List ℕ
input = 1 ∷ 0 ∷ 21 ∷ 0 ∷ 0 ∷ 0 ∷ 0 ∷ 5 ∷ 0 ∷ 1 ∷ []

abbrev pub first : List ℕ
first = ascii "1 0015 5 -\n"

abbrev pub second : List ℕ
second = ascii "2 0005 3 -\n"

abbrev pub third : List ℕ
third = ascii "3 ---- 2 -\n"

pub example : tray_text input ≡ header_text ++ (first ++ (second ++ third))
unfolding run_text outcome_of tray_lines tray_did tray_kind_of rec_of size_of whole_of hex_of shown_text short_text decimal_text kind_text reply_text
    start_text end_text
example = refl
