-- The loop of `put_sums`: where it stands after some messages, and how it comes there.
use mathlib.Core.Path.{◌≡◌, refl, ◌∙◌}
use mathlib.Core.List.{List, [], ◌∷◌}
use Prim.Native.Nat.{ℕ, ◌+◌, ◌-◌, ◌*◌, ◌≤◌}
use native.Mathlib.Omega.{arith}
use lib.ListN.{length, drop, length-drop}
use Rattle.slices.specs.Slices.{part}
use Rattle.slices.proofs.Laws.{part_rest}
use Rattle.digits.specs.declared.Page.{Page}
use Rattle.digits.specs.Digits.{Appends}
use Rattle.digits.proofs.Laws.{none, then, wider}
use Rattle.checksum.specs.Sums.{sums_text, Summed}

-- the messages before the rest are answered: whatever is put behind their lines as the rest makes the whole
pub record Going (s : List ℕ) (before page : Page) (rest : List ℕ) : Type 0 where
  pub within : length rest ≤ length s
  pub short : page.used + 3 * length rest ≤ before.used + 3 * length s
  pub lent : page.room.ghost_name ≡ before.room.ghost_name
  pub sized : length page.room.now ≡ length before.room.now
  pub whole : (m : ℕ) (after : Page) → Appends m (sums_text rest) page after → Appends (3 * (length s - length rest) + m) (sums_text s) before after

pub start : {s : List ℕ} {before : Page} → Going s before before s
start = record { within = omega arith; short = omega arith; lent = refl; sized = refl; whole = λ m after w. wider w (omega arith) }

pub more : {s rest line : List ℕ} {before page after : Page} {size : ℕ} → Going s before page rest → Summed rest line size
    → Appends (length line) line page after → Going s before after (part (length rest - size) rest size)
more {rest = rest} {line = line} {size = size} g a put =
    let left = length-drop size rest in
    rw (part_rest rest size)
    record {
      within = omega (arith, g.within, left);
      short = omega (arith, g.short, put.writing.within, a.three, a.onward, a.within, left);
      lent = put.lent ∙ g.lent;
      sized = put.size ∙ g.sized;
      whole = λ m last w.
          wider (g.whole (length line + m) last (rw a.lines (then put w))) (omega (arith, a.three, a.onward, a.within, g.within, left));
    }

pub ended : {s rest : List ℕ} {before page : Page} → Going s before page rest → length rest ≡ 0 → Appends (3 * length s) (sums_text s) before page
ended {rest = []} {page = page} g e = wider (g.whole 0 page (none page)) (omega arith)
ended {rest = x ∷ xs} g e = absurd (omega arith)
