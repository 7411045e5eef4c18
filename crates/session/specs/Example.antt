-- THE EXAMPLE OF DOCUMENT 01: "Input bytes `00 00 05 00 00 00 63 00 01` print exactly: .."
use Rattle.std.specs.Prelude.{◌≡◌, List, [], ◌∷◌, ◌++◌, ℕ}
use Rattle.digits.specs.Ascii.{ascii}
use Rattle.session.specs.Session.{session_text}

abbrev pub example_input : List ℕ
example_input = 0x00 ∷ 0x00 ∷ 0x05 ∷ 0x00 ∷ 0x00 ∷ 0x00 ∷ 0x63 ∷ 0x00 ∷ 0x01 ∷ []

abbrev pub PrintedText : Type 0
PrintedText =
    session_text example_input ≡ ascii "record kind answer reply\n" ++ (ascii "1 0005 5 -\n" ++ (ascii "2 0063 3 -\n" ++ ascii "3 ---- 2 -\n"))
