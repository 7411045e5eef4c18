-- What follows of the lines' definition.
use mathlib.Core.Path.{◌≡◌, refl, sym, ap, ◌∙◌}
use mathlib.Core.Bool.{true, false}
use mathlib.Core.List.{List, [], ◌∷◌, ◌++◌}
use Prim.Native.Nat.{ℕ, zero, suc, ◌+◌, ◌-◌, ◌≤◌, ◌<◌}
use native.Mathlib.Numerals.{add-one}
use native.Mathlib.Omega.{arith}
use borrow.Author.Tests.{lt-ltb, leb-true}
use lib.Dec.{leb}
use lib.ListN.{length, get_or, take, drop, length-drop}
use lib.Seq.{take_at, drop-cons, drop-drop, drop-length}
use Rattle.numbers.proofs.Bounds.{both_true}
use Rattle.crc.specs.Crc.{crc_of}
use Rattle.slices.specs.Slices.{part}
use Rattle.checksum.specs.Sums.{crc_line, cut_text, there_of, sums_from, sums_text, checked_text, Summed}

-- a message that is there whole has its bytes
pub there_left : (n left : ℕ) → there_of n left ≡ true → n ≤ left
there_left n left e = leb-true n left (both_true (leb n 64) (leb n left) e).1

-- the bytes of the message before are passed over
passed : (k : ℕ) (s : List ℕ) → sums_from k s ≡ sums_text (drop k s)
passed zero [] = refl
passed zero (x ∷ s) = refl
passed (suc k) [] = refl
passed (suc k) (x ∷ s) = passed k s

-- a length byte, and what is behind it
opened : (s : List ℕ) (n : ℕ) → 0 < length s → n ≡ get_or s 0 0 → sums_text s ≡ sums_text (n ∷ drop 1 s)
opened [] n h is = absurd (omega arith)
opened (x ∷ s) n h is = ap (λ (k : ℕ). sums_text (k ∷ s)) (sym is)

-- What is written of the message at the front, with the length byte n

module _ {s : List ℕ} {n : ℕ} (h : 0 < length s) (is : n ≡ get_or s 0 0) where
  pub whole_answer : {c : ℕ} {line : List ℕ} → there_of n (length s - 1) ≡ true → c ≡ crc_of (part (1 + n - 1) s 1) → line ≡ crc_line c
      → Summed s line (1 + n)
  whole_answer w e l =
      let k : 1 + n - 1 ≡ n = omega arith in
      record {
        goes = rw (← is, w);
        lines = rw (opened s n h is, length-drop 1 s, w, passed n (drop 1 s), drop-drop n 1 s, l, e, k);
        three = ap length l;
        onward = omega arith;
        within = omega (arith, there_left n (length s - 1) w);
      }

  pub cut_answer : there_of n (length s - 1) ≡ false → Summed s cut_text (length s)
  cut_answer w =
      record {
        goes = rw (← is, w);
        lines = rw (opened s n h is, length-drop 1 s, w, drop-length s);
        three = refl;
        onward = h;
        within = omega arith;
      }

-- an input of more than 65,536 bytes: its bytes do not matter
pub alike : (s : List ℕ) → 65536 < length s → checked_text s ≡ cut_text
unfolding checked_text
alike s h = rw (lt-ltb 65536 (length s) h)

-- a line of three bytes, and what follows it: the line is the first three
pub front_line : (line line' rest : List ℕ) → length line ≡ 3 → length line' ≡ 3 → line ++ rest ≡ line' ++ rest → line ≡ line'
front_line line line' rest e e' same = sym (take_at line rest 3 e) ∙ ap (λ (l : List ℕ). take 3 l) same ∙ take_at line' rest 3 e'
