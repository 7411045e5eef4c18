-- Laws of what the master's bytes ask.
use mathlib.Core.Path.{◌≡◌, refl, sym, ap, ◌∙◌}
use mathlib.Core.Bool.{Bool, true, false, ◌&&◌}
use mathlib.Core.List.{List, [], ◌∷◌, ◌++◌}
use mathlib.Core.Logic.{◌⊎◌, inl, inr, ⊎_elim}
use Prim.Native.Nat.{ℕ, ◌+◌, ◌-◌, ◌≤◌, ◌<◌}
use native.Mathlib.Numerals.{add-one}
use native.Mathlib.Omega.{arith}
use borrow.Author.Tests.{ltb-false, eqb-true, eq-eqb, ne_eqb, le-ltb, lt-ltb}
use lib.ListN.{length, get_or, take, drop, length-append, length-drop, drop_of_length-le}
use lib.Seq.{drop-cons, take_at, length-take-le}
use Rattle.std.proofs.lemmas.List.{take_rest}
use lib.Dec.{ltb, eqb}
use Rattle.std.specs.Array.{IsFirstChunk}
use Rattle.std.specs.Int.{from_le_bytes, to_le_bytes, w64}
use Rattle.std.proofs.lemmas.Bool.{false_from_ne_true}
use Rattle.std.proofs.lemmas.Bool.Decides.{eqb_tells}
use Rattle.std.proofs.lemmas.Nat.{le_bytes_8}
use Rattle.numbers.specs.Choice.{both}
use Rattle.numbers.proofs.Bounds.{picked, both_true}
use Rattle.bus.specs.declared.Rom.{Rom}
use Rattle.bus.specs.declared.Rom.TheVariants.{Net33, Net39, Skip, Match, Quiet}
use Rattle.bus.specs.declared.Transaction.{Transaction}
use Rattle.bus.specs.Ask.{rom_of, command_of, plain_of, asked_at, asked_by, asked_of, AllBytes, same_bytes, own_of}

-- ---- two lists with the same bytes

pub equal_same : (a : List ℕ) → same_bytes a a ≡ true
equal_same [] = refl
equal_same (x ∷ xs) = simp (eq-eqb x x refl) (equal_same xs)

never : false ≡ true → ⊥
never e = let z : ◌≡◌ {A = ℕ} 0 1 = cc in omega arith

pub same_equal : (a b : List ℕ) → same_bytes a b ≡ true → a ≡ b
same_equal [] [] e = refl
same_equal [] (y ∷ ys) e = absurd (never e)
same_equal (x ∷ xs) [] e = absurd (never e)
same_equal (x ∷ xs) (y ∷ ys) e =
    let parts = both_true (eqb x y) (same_bytes xs ys) e in
    let first = eqb-true x y parts.0 in
    let others = same_equal xs ys parts.1 in cc

-- from one place on: the byte there, and the bytes from the next place on
pub same_more : (a b : List ℕ) (i : ℕ) → i < length a → i < length b →
    same_bytes (drop i a) (drop i b) ≡ both (eqb (get_or a i 0) (get_or b i 0)) (same_bytes (drop (i + 1) a) (drop (i + 1) b))
same_more a b i h k = rw (drop-cons a i 0, drop-cons b i 0, add-one)

-- a byte differs, a byte agrees, none is left
module _ (a b : List ℕ) (i : ℕ) (size : length a ≡ length b) (so_far : same_bytes (drop i a) (drop i b) ≡ same_bytes a b) where
  pub differs : i < length a → (get_or a i 0 ≡ get_or b i 0 → ⊥) → false ≡ same_bytes a b
  differs h d = sym (same_more a b i h (omega arith) ∙ simp (ne_eqb _ _ d)) ∙ so_far

  pub agrees : i < length a → get_or a i 0 ≡ get_or b i 0 → same_bytes (drop (i + 1) a) (drop (i + 1) b) ≡ same_bytes a b
  agrees h d = sym (same_more a b i h (omega arith) ∙ simp (eq-eqb _ _ d)) ∙ so_far

  pub ended : length a ≤ i → true ≡ same_bytes a b
  ended h =
      let k : length b ≤ i = omega arith in
      rw (drop_of_length-le a h, drop_of_length-le b k) at so_far

-- two numbers of eight bytes are equal where the bytes are
pub numbers_same : (a b : List ℕ) (m n : ℕ) → length a ≡ 8 → length b ≡ 8 → AllBytes a → AllBytes b → m ≡ from_le_bytes w64 a → n ≡ from_le_bytes w64 b
    → eqb m n ≡ same_bytes b a
numbers_same a b m n long_a long_b bytes_a bytes_b is_a is_b =
    ⊎_elim
    (λ t. t.0 ∙ sym (ap (same_bytes b) (same_list t.1) ∙ equal_same b))
    (λ t. t.0 ∙ sym (false_from_ne_true (same_bytes b a) (λ e. t.1 (other e))))
    (eqb_tells m n)
  where
    same_list : m ≡ n → a ≡ b
    same_list e = sym (le_bytes_8 a m long_a bytes_a is_a) ∙ ap (to_le_bytes w64) e ∙ le_bytes_8 b n long_b bytes_b is_b

    other : same_bytes b a ≡ true → m ≡ n
    other e = is_a ∙ ap (from_le_bytes w64) (sym (same_equal b a e)) ∙ sym is_b

-- the first 8 bytes after the first, as a number, and that of the address
pub own_given : (address master given : List ℕ) (m n : ℕ) → length address ≡ 8 → AllBytes address → AllBytes given
    → IsFirstChunk (take (length master - 1) (drop 1 master)) given 8 → m ≡ from_le_bytes w64 given → n ≡ from_le_bytes w64 address
    → eqb m n ≡ own_of address master
unfolding own_of
own_given address master given m n long bytes bytes_given chunk is_given is_own =
    let h = rw take_rest at chunk in
    let far : 9 ≤ length master = omega (arith, h.enough, length-drop 1 master) in
    let size : length given ≡ 8 = omega (arith, h.enough, ap length h.same, length-take-le 8 (drop 1 master) h.enough) in
    simp (le-ltb _ _ far) (numbers_same given address m n size long bytes_given bytes is_given is_own ∙ ap (same_bytes address) h.same)

-- 55h and the own address, with anything after them
pub own_own : (address rest : List ℕ) → length address ≡ 8 → own_of address (0x55 ∷ (address ++ rest)) ≡ true
unfolding own_of
own_own address rest h =
    let long : 9 ≤ length (0x55 ∷ (address ++ rest)) = omega (arith, length-append address rest) in
    simp (le-ltb _ _ long, take_at address rest 8 h, equal_same address)

-- no other address is the own one
pub own_only : (address master : List ℕ) → own_of address master ≡ true → take 8 (drop 1 master) ≡ address
unfolding own_of
own_only address master =
    picked (λ (t : Bool). t ≡ true → take 8 (drop 1 master) ≡ address) (ltb (length master) 9) false (same_bytes address (take 8 (drop 1 master)))
    (λ short e. absurd (never e))
    (λ long e. sym (same_equal address (take 8 (drop 1 master)) e))

-- ---- the transaction

-- what holds of a transaction with no function command, and of one whose function command stands at place 1 or 9, holds of what is asked
module _
    (P : Transaction → Type 0)
    (start count : ℕ)
    (master : List ℕ)
    (none : (rom : Rom) → P (plain_of start count rom))
    (some : (rom : Rom) (at : ℕ) → (at ≡ 1) ⊎ (at ≡ 9) → at + 2 ≤ length master →
    P (record { start = start; from = at + 2; address = get_or master (at + 1) 0; rom = rom; command = command_of (get_or master at 0); count = count }))
  where
    at_holds : (rom : Rom) (at : ℕ) → (at ≡ 1) ⊎ (at ≡ 9) → P (asked_at start count rom at master)
    unfolding asked_at
    at_holds rom at place =
        picked P (ltb (length master) (at + 2)) _ _ (λ short. none rom) (λ long. some rom at place (ltb-false _ _ long))

    by_holds : (rom : Rom) → P (asked_by start count master rom)
    by_holds Skip = at_holds Skip 1 (inl refl)
    by_holds Match = at_holds Match 9 (inr refl)
    by_holds Net33 = none Net33
    by_holds Net39 = none Net39
    by_holds Quiet = none Quiet

    pub asked_holds : P (asked_of start count master)
    unfolding asked_of
    asked_holds = by_holds (rom_of master)

-- what a transaction has whatever the master bytes say: start and count are those given, and the bytes to be written start at 11 at most, and
-- not past the end
pub record Placed (start count : ℕ) (master : List ℕ) (t : Transaction) : Type 0 where
  pub starts : t.start ≡ start
  pub counts : t.count ≡ count
  pub near : t.from ≤ 11
  pub within : t.from ≤ length master

pub asked_placed : (start count : ℕ) (master : List ℕ) → Placed start count master (asked_of start count master)
asked_placed start count master =
    asked_holds (Placed start count master) start count master
    (λ rom. record { starts = refl; counts = refl; near = omega arith; within = omega arith })
    (λ rom at place long. record {
      starts = refl;
      counts = refl;
      near = ⊎_elim (λ e. omega arith) (λ e. omega arith) place;
      within = long;
    })
