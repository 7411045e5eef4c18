-- TWO CAUSES AT ONCE, request [10] of document 02: "40 to 42 in that order at the first bad line, 43 only if no line is bad"; "44, in export, if an image
-- record would refuse either image"; "45 room under 144 (import: under 48, after 40 to 43)".
use Rattle.std.specs.Prelude.{◌≡◌, ℕ, List, [], ◌∷◌, ◌++◌, replicate}
use Rattle.slices.specs.Slices.{put}
use Rattle.digits.specs.Ascii.{ascii}
use Rattle.intel_hex.specs.Export.{answer_number, export_answer}
use Rattle.intel_hex.specs.Import.{text_lines, import_answer}

-- ---- export

-- all bytes are 0 but the family code and the CRC of the address; and with another CRC
abbrev blank : List ℕ
blank = 0x3d ∷ (replicate 6 0 ++ (0x2c ∷ replicate 52 0))

abbrev misread : List ℕ
misread = put blank 7 (0 ∷ [])

abbrev exports : List ℕ → List ℕ → ℕ → ℕ
exports pack factory room = answer_number (export_answer pack factory room)

-- each alone
abbrev pub ExportAlone : Type 0
ExportAlone = exports misread blank 144 ∷ exports blank misread 144 ∷ exports blank blank 143 ∷ exports blank blank 144 ∷ [] ≡ 44 ∷ 44 ∷ 45 ∷ 0 ∷ []

-- 44 before 45: an image that is refused, and a room of 143
abbrev pub ExportImageFirst : Type 0
ExportImageFirst = exports misread blank 143 ∷ exports blank misread 143 ∷ exports misread misread 143 ∷ [] ≡ replicate 3 44

-- ---- import

-- the three records, an end record, and a text of them, in which nothing is wrong
abbrev label : List ℕ
label = ascii ":1000200000000000000000000000000000000000D0\n"

abbrev low : List ℕ
low = ascii ":100060000000000000000000000000000000000090\n"

abbrev high : List ℕ
high = ascii ":100070000000000000000000000000000000000080\n"

abbrev ended : List ℕ
ended = ascii ":00000001FF\n"

-- without the label, a record is missing
abbrev rest : List ℕ
rest = low ++ (high ++ ended)

abbrev complete : List ℕ
complete = label ++ rest

-- the label's line, not formed (a digit in lower case), with a wrong checksum, and both
abbrev unformed : List ℕ
unformed = ascii ":1000200000000000000000000000000000000000d0\n"

abbrev missummed : List ℕ
missummed = ascii ":1000200000000000000000000000000000000000D1\n"

abbrev unformed_missummed : List ℕ
unformed_missummed = ascii ":1000200000000000000000000000000000000000d1\n"

-- a record that is not of the layout; not formed besides; and with a wrong checksum besides
abbrev misplaced : List ℕ
misplaced = ascii ":0000FF0001\n"

abbrev unformed_misplaced : List ℕ
unformed_misplaced = ascii ":0000ff0001\n"

abbrev missummed_misplaced : List ℕ
missummed_misplaced = ascii ":0000FF0002\n"

abbrev imports : List ℕ → ℕ → ℕ
imports text room = answer_number (import_answer (text_lines text) room)

-- each alone: a line not formed, a wrong checksum, a record not of the layout, a record missing, a room of 47
abbrev pub ImportAlone : Type 0
ImportAlone =
    imports (unformed ++ rest) 48 ∷ imports (missummed ++ rest) 48 ∷ imports (misplaced ++ complete) 48 ∷ imports rest 48 ∷ imports complete 47
    ∷ imports complete 48 ∷ []
    ≡ 40 ∷ 41 ∷ 42 ∷ 43 ∷ 45 ∷ 0 ∷ []

-- 40 before 41 and 42, in one line, and before 43 and 45
abbrev pub ImportFormFirst : Type 0
ImportFormFirst =
    imports (unformed_missummed ++ rest) 48 ∷ imports (unformed_misplaced ++ complete) 48 ∷ imports (unformed ++ (low ++ ended)) 48
    ∷ imports (unformed ++ rest) 47 ∷ []
    ≡ replicate 4 40

-- 41 before 42, in one line, and before 43 and 45
abbrev pub ImportSumFirst : Type 0
ImportSumFirst =
    imports (missummed_misplaced ++ complete) 48 ∷ imports (missummed ++ (low ++ ended)) 48 ∷ imports (missummed ++ rest) 47 ∷ [] ≡ replicate 3 41

-- 42 before 43 and 45
abbrev pub ImportRecordFirst : Type 0
ImportRecordFirst = imports (misplaced ++ rest) 48 ∷ imports (misplaced ++ complete) 47 ∷ [] ≡ 42 ∷ 42 ∷ []

-- the first bad line decides, whatever the later ones have
abbrev pub ImportLineFirst : Type 0
ImportLineFirst =
    imports (misplaced ++ (unformed ++ rest)) 48 ∷ imports (misplaced ++ (missummed ++ rest)) 48
    ∷ imports (missummed ++ (unformed_misplaced ++ rest)) 48 ∷ []
    ≡ replicate 2 42 ++ (41 ∷ [])

-- 43 before 45: a record missing, or the whole text, and a room of 47
abbrev pub ImportWholeFirst : Type 0
ImportWholeFirst = imports rest 47 ∷ imports [] 47 ∷ [] ≡ 43 ∷ 43 ∷ []
