-- THE EXAMPLE OF DOCUMENT 01: "Input bytes `00 00 05 00 00 00 63 00 01` print exactly": a power-on before an image is 5, the kind 63h is 3, and a byte where a
-- header is due is 2. The lines, with "65,536 bytes of reply room"; their text is `PrintedText` of crate `session`.
use Rattle.std.specs.Prelude.{◌≡◌, [], ◌∷◌}
use Rattle.session_run.specs.SessionRun.{session_of}

abbrev pub PrintedLines : Type 0
PrintedLines =
    session_of (0x00 ∷ 0x00 ∷ 0x05 ∷ 0x00 ∷ 0x00 ∷ 0x00 ∷ 0x63 ∷ 0x00 ∷ 0x01 ∷ []) 65536
    ≡ record { kind = 5; answer = 5; reply = [] } ∷ record { kind = 0x63; answer = 3; reply = [] } ∷ record { kind = 0; answer = 2; reply = [] } ∷ []
