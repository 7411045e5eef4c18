-- What request [7] says of conversions: every 1024th since power-on shows the c before it, and one that finds the mark adds nothing.
use mathlib.Core.Path.{◌≡◌, refl, ap, ◌∙◌}
use mathlib.Core.Bool.{Bool, false}
use mathlib.Core.List.{List, [], ◌∷◌}
use Prim.Native.Nat.{ℕ, ◌+◌, ◌%◌}
use lib.ListN.{length}
use Rattle.conversion.specs.Conversion.{counted_of, filled_of, settled_of, flowed_of, convert_of, all_converted, current_of, next_made, converted_of}
use Rattle.state.specs.declared.Charge.{Charge}
use Rattle.state.specs.State.{powered_of}
use Rattle.state.specs.declared.Meter.{Meter}
use native.Mathlib.Omega.{arith}
use borrow.Author.Tests.{eq-eqb, ne_eqb}
use Rattle.numbers.proofs.Bounds.{picked}
use Rattle.params.specs.Params.{counting_of}
use Rattle.conversion.proofs.FullLaws.{averaged_made}
use Rattle.state.specs.declared.Cells.{Cells}

abbrev pub made : Meter → ℕ
made m = m.flow.average.made

abbrev shows : Meter → ℕ
shows m = m.flow.trace.last

-- ---- the count of conversions

-- each conversion counts one
pub convert_made : (m : Meter) (raw : ℕ) → made (convert_of m raw) ≡ next_made (made m)
unfolding convert_of flowed_of
convert_made m raw = averaged_made m.flow.average _

counted_on : (raws : List ℕ) (m : Meter) (n : ℕ) → made m ≡ n % 1024 → made (all_converted raws m) ≡ (n + length raws) % 1024
counted_on [] m n e = e ∙ ap (λ (x : ℕ). x % 1024) (omega arith)
counted_on (raw ∷ more) m n e =
    counted_on more (convert_of m raw) (n + 1) (omega (arith, convert_made m raw, e)) ∙ ap (λ (x : ℕ). x % 1024) (omega arith)

-- a power-on starts it
pub powered_made : (c : Cells) (raws : List ℕ) → made (all_converted raws (powered_of c)) ≡ length raws % 1024
unfolding powered_of
powered_made c raws = counted_on raws (powered_of c) 0 refl ∙ ap (λ (x : ℕ). x % 1024) (omega arith)

-- ---- c

convert_shows : (m : Meter) (raw : ℕ) → shows (convert_of m raw) ≡ converted_of m.flow raw (counting_of m.cells.block.shadow).cob
unfolding convert_of flowed_of
convert_shows m raw = refl

-- the 1024th, 2048th, .. since power-on shows the c before it
pub every_1024th : (m : Meter) (raw : ℕ) → made m ≡ 1023 → shows (convert_of m raw) ≡ shows m
every_1024th m raw e = convert_shows m raw ∙ simp (eq-eqb (made m) 1023 e)

-- whatever the raw value
pub raw_ignored : (m : Meter) (raw other : ℕ) → made m ≡ 1023 → convert_of m raw ≡ convert_of m other
unfolding convert_of
raw_ignored m raw other e = simp (eq-eqb (made m) 1023 e)

-- and every other one raw + COB
pub all_others : (m : Meter) (raw : ℕ) → (made m ≡ 1023 → ⊥) → shows (convert_of m raw) ≡ current_of raw (counting_of m.cells.block.shadow).cob
all_others m raw e = convert_shows m raw ∙ simp (ne_eqb (made m) 1023 e)

-- ---- the mark

filled_mark : (g : Charge) (full full40 : ℕ) → (filled_of g full full40).mark ≡ g.mark
unfolding filled_of
filled_mark g full full40 = refl

settled_mark : (g : Charge) (found : Bool) (full full40 : ℕ) → (settled_of g found full full40).mark ≡ g.mark
unfolding settled_of
settled_mark g found full full40 = picked (λ (x : Charge). x.mark ≡ g.mark) found _ _ (λ e. filled_mark g full full40) (λ e. refl)

-- a conversion uses it up, and full that it finds sets none
pub convert_mark : (m : Meter) (raw : ℕ) → (convert_of m raw).charge.mark ≡ false
unfolding convert_of flowed_of counted_of
convert_mark m raw = settled_mark _ _ _ _

-- a power-on clears it
pub powered_mark : (c : Cells) → (powered_of c).charge.mark ≡ false
unfolding powered_of
powered_mark c = refl
