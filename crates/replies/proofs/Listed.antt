-- Laws of a reply as a list: it fills a room, first with FFh, then with what is laid over it.
use mathlib.Core.Path.{◌≡◌, refl, sym, ap, ◌∙◌}
use mathlib.Core.Bool.{Bool, true, false}
use mathlib.Core.Logic.{inl, inr}
use mathlib.Core.List.{List, ◌∷◌}
use Prim.Native.Nat.{ℕ, zero, suc, ◌+◌, ◌-◌, ◌%◌, ◌≤◌, ◌<◌}
use native.Mathlib.Nat.{sub-zero}
use native.Mathlib.Numerals.{add-one}
use native.Mathlib.Omega.{arith}
use lib.Dec.{leb, ltb, eqb}
use lib.ListN.{length, get_or, set, length-set, replicate}
use lib.Seq.{ext_get_or}
use borrow.Author.Tests.{le-leb, lt-leb, lt-ltb, leb-true, leb-false, ltb-true, ltb-false, eqb-true, eqb-false}
use Rattle.numbers.specs.Choice.{pick, both}
use Rattle.numbers.proofs.Bounds.{picked}
use Rattle.slices.specs.Slices.{put, laid_of}
use Rattle.slices.proofs.Laws.{put_whole, laid_length, laid_reached, laid_missed}
use Rattle.state.specs.declared.Meter.{Meter}
use Rattle.state.specs.declared.Common.{Common}
use Rattle.state.specs.declared.Label.{Label}
use Rattle.label.specs.Label.{in_label, in_block, label_byte}
use Rattle.registers.specs.declared.Pair.{Pair}
use Rattle.registers.specs.Registers.{registers_of, register_of, meter_byte}
use Rattle.registers.proofs.Meaning.{registers_length}
use Rattle.replies.specs.Reply.{read_byte, net_byte, over_of, listed}

pub listed_length : (f : ℕ → ℕ) (i n : ℕ) → length (listed f i n) ≡ n
listed_length f i zero = refl
listed_length f i (suc n) = ap suc (listed_length f (i + 1) n)

pub listed_at : (f : ℕ → ℕ) (i n j : ℕ) → j < n → get_or (listed f i n) j 0 ≡ f (i + j)
listed_at f i zero j h = absurd (omega arith)
listed_at f i (suc n) zero h = let e : i + 0 ≡ i = omega arith in rw e refl
listed_at f i (suc n) (suc j) h = let e : i + 1 + j ≡ i + suc j = omega arith in listed_at f (i + 1) n j (omega arith) ∙ ap f e

-- one value, over and over
pub replicated : (x i n : ℕ) → replicate n x ≡ listed (λ k. x) i n
replicated x i zero = refl
replicated x i (suc n) = ap (λ (l : List ℕ). x ∷ l) (replicated x (i + 1) n)

-- a list is that of its values
itself : (l : List ℕ) → l ≡ listed (λ i. get_or l i 0) 0 (length l)
itself l =
    ext_get_or 0 l _ (sym (listed_length _ 0 (length l)))
    (λ i h. let z : 0 + i ≡ i = omega arith in sym (listed_at (λ i. get_or l i 0) 0 (length l) i h ∙ ap (λ (i : ℕ). get_or l i 0) z))

-- the same values below n
pub listed_same : (f g : ℕ → ℕ) (n : ℕ) → ((i : ℕ) → i < n → f i ≡ g i) → listed f 0 n ≡ listed g 0 n
listed_same f g n e =
    ext_get_or 0 (listed f 0 n) (listed g 0 n) (listed_length f 0 n ∙ sym (listed_length g 0 n))
    (λ i h. let b : i < n = omega (arith, listed_length f 0 n) in
    let z : 0 + i ≡ i = omega arith in
    listed_at f 0 n i b ∙ ap f z ∙ e i b ∙ sym (listed_at g 0 n i b ∙ ap g z))

-- ---- filled with the values of f, one by one: what is still to be put, over what stands there now, is the whole

pub record Filling (f : ℕ → ℕ) (room₀ room : List ℕ) (i : ℕ) : Type 0 where
  pub within : i ≤ length room₀
  pub same : length room ≡ length room₀
  pub rest : put room i (listed f i (length room₀ - i)) ≡ listed f 0 (length room₀)

pub filling_start : (f : ℕ → ℕ) (room : List ℕ) → Filling f room room 0
filling_start f room = record {
  within = omega arith;
  same = refl;
  rest = rw (sub-zero (length room)) (put_whole room (listed f 0 (length room)) (listed_length f 0 (length room)));
}

pub filling_more : (f : ℕ → ℕ) (room₀ room : List ℕ) (i b : ℕ) → Filling f room₀ room i → i < length room₀ → b ≡ f i →
    Filling f room₀ (set room i b) (i + 1)
filling_more f room₀ room i b g h e =
    let n = length room₀ in
    let k : n - i ≡ suc (n - (i + 1)) = omega arith in
    rw e
    (record {
      within = omega arith;
      same = length-set room i (f i) ∙ g.same;
      rest = sym (rw k (ap (λ (j : ℕ). put (set room i (f i)) j (listed f (i + 1) (n - (i + 1)))) (sym (add-one i)))) ∙ g.rest;
    })

pub filling_end : (f : ℕ → ℕ) (room₀ room : List ℕ) (i : ℕ) → Filling f room₀ room i → length room₀ ≤ i →
    room ≡ listed f 0 (length room₀)
filling_end f room₀ room i g h =
    let e : length room₀ - i ≡ 0 = omega arith in
    sym (ap (λ (k : ℕ). put room i (listed f i k)) e) ∙ g.rest

-- ---- laid over

-- the byte i of a room from the address low upward, with the values of f, once bytes from the address a upward are laid over it
abbrev pub laid_byte : (ℕ → ℕ) → ℕ → ℕ → List ℕ → ℕ → ℕ
laid_byte f low a bytes i = pick (both (leb a (low + i)) (ltb (low + i) (a + length bytes))) (get_or bytes (low + i - a) 0) (f i)

pub laid_listed : (f : ℕ → ℕ) (n low : ℕ) (room : List ℕ) (a : ℕ) (bytes : List ℕ) {r : List ℕ} → room ≡ listed f 0 n
    → r ≡ laid_of low (low + length room) room a bytes → r ≡ listed (laid_byte f low a bytes) 0 n
laid_listed f n low room a bytes e h =
    let sized : length room ≡ n = ap length e ∙ listed_length f 0 n in
    h ∙ ext_get_or 0 _ (listed (laid_byte f low a bytes) 0 n) (laid_length low (low + length room) room a bytes ∙ sized ∙ sym (listed_length _ 0 n))
    (λ i b. let inside : i < length room = omega (arith, laid_length low (low + length room) room a bytes) in
    at i inside (omega arith) ∙ sym (listed_at (laid_byte f low a bytes) 0 n i (omega arith) ∙ ap (laid_byte f low a bytes) (omega arith)))
  where
    at : (i : ℕ) → i < length room → i < n → get_or (laid_of low (low + length room) room a bytes) i 0 ≡ laid_byte f low a bytes i
    at i inside below =
        go (leb a (low + i)) refl (ltb (low + i) (a + length bytes)) refl
        (ap (λ (l : List ℕ). get_or l i 0) e ∙ listed_at f 0 n i below ∙ ap f (omega arith))
      where
        go : (s : Bool) → leb a (low + i) ≡ s → (t : Bool) → ltb (low + i) (a + length bytes) ≡ t → get_or room i 0 ≡ f i
            → get_or (laid_of low (low + length room) room a bytes) i 0 ≡ pick (both s t) (get_or bytes (low + i - a) 0) (f i)
        go true s true t o =
            laid_reached low (low + length room) room a bytes i inside (omega arith) (leb-true a (low + i) s) (ltb-true (low + i) (a + length bytes) t)
        go true s false t o = laid_missed low (low + length room) room a bytes i inside (omega arith) (inr (ltb-false (low + i) (a + length bytes) t)) ∙ o
        go false s t u o = laid_missed low (low + length room) room a bytes i inside (omega arith) (inl (leb-false a (low + i) s)) ∙ o

-- ---- the two replies that show something, over FFh

-- the address
pub net_listed : (address : List ℕ) (n : ℕ) (room : List ℕ) {r : List ℕ} → length address ≡ 8 → room ≡ listed (λ i. 0xff) 0 n
    → r ≡ over_of 0 address 0 room → r ≡ listed (net_byte address) 0 n
net_listed address n room e idle h =
    laid_listed (λ i. 0xff) n 0 room 0 address idle h ∙ listed_same _ (net_byte address) n
    (λ i b. let z : 0 + i ≡ i = omega arith in rw (z, sub-zero i, e, le-leb 0 i (omega arith)) refl)

-- a room that ends within it shows it alone, whatever it held
pub net_short : (address room : List ℕ) {r : List ℕ} → length address ≡ 8 → length room ≤ 8 → r ≡ over_of 0 address 0 room
    → r ≡ listed (net_byte address) 0 (length room)
net_short address room e short h =
    laid_listed (λ i. get_or room i 0) (length room) 0 room 0 address (itself room) h ∙ listed_same _ (net_byte address) (length room)
    (λ i b. let z : 0 + i ≡ i = omega arith in rw (z, sub-zero i, e, le-leb 0 i (omega arith), lt-ltb i 8 (omega arith)) refl)

-- ---- the map

-- the two bytes of a register, from an even address on, and of these the one at a
module _ (k : Common) (m : Meter) (a : ℕ) (p : Pair) (e : p ≡ register_of k m (a - a % 2)) where
  pub high_byte : (i : ℕ) → a % 2 + i ≡ 0 → p.high ≡ get_or (registers_of k m) (a + i) 0
  high_byte i even =
      let at : a - a % 2 ≡ a + i = omega arith in
      ap (λ (p : Pair). p.high) e ∙ ap (λ (x : ℕ). get_or (registers_of k m) x 0) at

  pub low_byte : (i : ℕ) → a % 2 + i ≡ 1 → p.low ≡ get_or (registers_of k m) (a + i) 0
  low_byte i odd =
      let at : a - a % 2 + 1 ≡ a + i = omega arith in
      ap (λ (p : Pair). p.low) e ∙ ap (λ (x : ℕ). get_or (registers_of k m) x 0) at

module _ (k : Common) (l : Label) (m : Meter) where
  -- below 20h stand the registers
  register_byte : (x : ℕ) → x < 0x20 → get_or (registers_of k m) x 0 ≡ read_byte k l m x
  unfolding read_byte meter_byte in_label
  register_byte x h = rw (lt-leb 0x20 x h, lt-ltb x 0x20 h) refl

  -- a room that ends within a register shows it alone
  pub register_listed : (a n : ℕ) → a < 0x20 → a % 2 + n ≤ 2 →
      listed (λ i. get_or (registers_of k m) (a + i) 0) 0 n ≡ listed (λ i. read_byte k l m (a + i)) 0 n
  register_listed a n h short = listed_same _ (λ i. read_byte k l m (a + i)) n (λ i b. register_byte (a + i) (omega arith))

  -- what is laid last is asked for first
  map_byte : (x : ℕ) (s : Bool) → ltb x 0x20 ≡ s
      → pick s (get_or (registers_of k m) x 0) (pick (in_label x) (label_byte l x) (pick (in_block x) (get_or m.cells.block.shadow (x - 0x60) 0) 0xff))
      ≡ read_byte k l m x
  unfolding read_byte meter_byte
  map_byte x true e = register_byte x (ltb-true x 0x20 e)
  map_byte x false e = rw e refl

  pub read_listed : (a n : ℕ) (room₁ room₂ room₃ room₄ : List ℕ) → length m.cells.block.shadow ≡ 32 → length l.shadow ≡ 16
      → room₁ ≡ listed (λ i. 0xff) 0 n → room₂ ≡ over_of 0x60 m.cells.block.shadow a room₁ → room₃ ≡ over_of 0x20 l.shadow a room₂
      → room₄ ≡ over_of 0x00 (registers_of k m) a room₃ → room₄ ≡ listed (λ i. read_byte k l m (a + i)) 0 n
  unfolding label_byte in_label in_block
  read_listed a n room₁ room₂ room₃ room₄ block label e₁ e₂ e₃ e₄ =
      let f₂ = laid_listed _ n a room₁ 0x60 m.cells.block.shadow e₁ e₂ in
      let f₃ = laid_listed _ n a room₂ 0x20 l.shadow f₂ e₃ in
      laid_listed _ n a room₃ 0x00 (registers_of k m) f₃ e₄ ∙ listed_same _ (λ i. read_byte k l m (a + i)) n
      (λ i b. rw (label, block, registers_length k m, sub-zero (a + i), le-leb 0 (a + i) (omega arith)) (map_byte (a + i) (ltb (a + i) 0x20) refl))

  -- a room that ends among the registers shows these alone, whatever it held
  pub low_listed : (a : ℕ) (room : List ℕ) {r : List ℕ} → a + length room ≤ 0x20 → r ≡ over_of 0x00 (registers_of k m) a room
      → r ≡ listed (λ i. read_byte k l m (a + i)) 0 (length room)
  low_listed a room h e =
      laid_listed (λ i. get_or room i 0) (length room) a room 0x00 (registers_of k m) (itself room) e
      ∙ listed_same _ (λ i. read_byte k l m (a + i)) (length room)
      (λ i b. rw (registers_length k m, sub-zero (a + i), le-leb 0 (a + i) (omega arith), lt-ltb (a + i) 0x20 (omega arith))
      (register_byte (a + i) (omega arith)))
