-- The fields of a record that is done, and of a kind of one byte.
use mathlib.Core.Path.{◌≡◌, refl, sym}
use mathlib.Core.List.{◌++◌}
use Prim.Native.Nat.{ℕ, ◌/◌, ◌%◌, ◌<◌}
use native.Mathlib.Omega.{arith}
use Rattle.digits.specs.Ascii.{ascii}
use Rattle.digits.specs.declared.Page.{Page}
use Rattle.digits.specs.Digits.{lower, hex_of, pair_text, Appends}
use Rattle.digits.proofs.Laws.{then, single}
use Rattle.text.specs.Line.{kind_text, fields_text}

done_text : (kind : ℕ) → kind < 256 → ascii " 00" ++ (pair_text lower kind ++ ascii " 0 ") ≡ fields_text kind 0
unfolding kind_text hex_of
done_text kind small =
    let high : kind / 256 ≡ 0 = omega (arith, small) in
    let low : kind % 256 ≡ kind = omega (arith, small) in
    rw (high, low, sym (single 0 (omega arith))) refl

pub done : {p q r s : Page} (kind : ℕ) → kind < 256 → Appends 3 (ascii " 00") p q → Appends 2 (pair_text lower kind) q r → Appends 3 (ascii " 0 ") r s
    → Appends 8 (fields_text kind 0) p s
done kind small w₁ w₂ w₃ = rw (← done_text kind small) (then w₁ (then w₂ w₃))
