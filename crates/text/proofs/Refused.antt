-- The first image that was refused, looked for among numbers as `run` hands them back, is the first among the lines.
use mathlib.Core.Path.{◌≡◌, refl, sym, ap, ◌∙◌}
use mathlib.Core.Bool.{true, false}
use mathlib.Core.List.{List, [], ◌∷◌}
use Prim.Native.Nat.{ℕ, ◌+◌, ◌≤◌, ◌<◌}
use native.Mathlib.Numerals.{add-one}
use native.Mathlib.Omega.{arith}
use lib.ListN.{length, get_or, drop, drop_of_length-le}
use lib.Seq.{drop-cons}
use Rattle.digits.specs.declared.Page.{Page}
use Rattle.digits.specs.Digits.{Appends}
use Rattle.digits.proofs.Laws.{none, wider}
use Rattle.runs.specs.Run.{Line, codes_of}
use Rattle.runs.proofs.Lines.{AllCoded}
use Rattle.text.specs.Text.{code_kind, code_answer, refused_image, refused_image_text, first_refused, first_coded}
use Rattle.text.proofs.Lines.{code_kind_lem, code_answer_lem}

-- ---- from one number to the next

module _ (codes : List ℕ) (i : ℕ) (inside : i < length codes) where
  rest : drop i codes ≡ get_or codes i 0 ∷ drop (i + 1) codes
  rest = rw add-one (drop-cons codes i 0 inside)

  first_here : refused_image (code_kind (get_or codes i 0)) (code_answer (get_or codes i 0)) ≡ true
      → first_coded (i + 1) (drop i codes) ≡ refused_image_text (i + 1) (code_answer (get_or codes i 0))
  first_here is = ap (first_coded (i + 1)) rest ∙ rw is refl

  pub first_later : refused_image (code_kind (get_or codes i 0)) (code_answer (get_or codes i 0)) ≡ false
      → first_coded (i + 1) (drop i codes) ≡ first_coded (i + 1 + 1) (drop (i + 1) codes)
  first_later is = ap (first_coded (i + 1)) rest ∙ rw is refl

module _ (codes : List ℕ) (i : ℕ) {page before : Page} (same : page ≡ before) (so : first_coded (i + 1) (drop i codes) ≡ first_coded 1 codes) where
  -- it is found
  pub first_found : {after : Page} → i < length codes → refused_image (code_kind (get_or codes i 0)) (code_answer (get_or codes i 0)) ≡ true
      → Appends 105 (refused_image_text (i + 1) (code_answer (get_or codes i 0))) page after → Appends 105 (first_coded 1 codes) before after
  first_found inside is w = rw (sym so ∙ first_here codes i inside is, sym same) w

  -- there is none
  pub first_none : length codes ≤ i → Appends 105 (first_coded 1 codes) before page
  first_none past = rw (sym so ∙ ap (first_coded (i + 1)) (drop_of_length-le codes past), sym same) (wider (none page) (omega arith))

-- ---- of the lines

pub first_coded_lem : (number : ℕ) (ls : List Line) → AllCoded ls → first_coded number (codes_of ls) ≡ first_refused number ls
first_coded_lem number [] h = refl
first_coded_lem number (l ∷ ls) h =
    let k = length l.reply in
    rw (
      code_kind_lem l.kind l.answer k h.0.narrow,
      code_answer_lem l.kind l.answer k h.0.narrow h.0.small,
      first_coded_lem (number + 1) ls h.1,
    )
