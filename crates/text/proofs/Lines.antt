-- The text of lines that are handed over as numbers and replies is the text of the lines.
use mathlib.Core.Path.{◌≡◌, refl}
use mathlib.Core.List.{List, [], ◌∷◌, ◌++◌, append_assoc}
use Prim.Native.Nat.{ℕ, ◌+◌, ◌<◌}
use native.Mathlib.Omega.{arith}
use lib.ListN.{length}
use lib.Seq.{take_at, drop_at}
use Rattle.runs.specs.Run.{Line, code_of, codes_of, replies_of}
use Rattle.runs.proofs.Lines.{AllCoded}
use Rattle.text.specs.Text.{code_kind, code_answer, code_replied, lines_text, codes_text}

pub code_kind_lem : (kind answer replied : ℕ) → kind < 65536 → code_kind (code_of kind answer replied) ≡ kind
code_kind_lem kind answer replied h = omega arith

pub code_answer_lem : (kind answer replied : ℕ) → kind < 65536 → answer < 256 → code_answer (code_of kind answer replied) ≡ answer
code_answer_lem kind answer replied h k = omega arith

code_replied_lem : (kind answer replied : ℕ) → kind < 65536 → answer < 256 → code_replied (code_of kind answer replied) ≡ replied
code_replied_lem kind answer replied h k = omega arith

pub codes_lines : (n : ℕ) (ls : List Line) (rest : List ℕ) → AllCoded ls → codes_text n (codes_of ls) (replies_of ls ++ rest) ≡ lines_text n ls
codes_lines n [] rest h = refl
codes_lines n (l ∷ ls) rest h =
    let k = length l.reply in
    rw (
      code_kind_lem l.kind l.answer k h.0.narrow,
      code_answer_lem l.kind l.answer k h.0.narrow h.0.small,
      code_replied_lem l.kind l.answer k h.0.narrow h.0.small,
      append_assoc l.reply (replies_of ls) rest,
      take_at l.reply (replies_of ls ++ rest) k refl,
      drop_at l.reply (replies_of ls ++ rest) k refl,
      codes_lines (n + 1) ls rest h.1,
    )
