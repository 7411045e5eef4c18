-- The 48 bytes come back, proved.
use Rattle.std.proofs.Common.{◌≡◌, ℕ, zero, suc, ◌+◌, ◌-◌, ◌/◌, ◌%◌, ◌<◌, ◌≤◌, Bool, true, false, eqb, ltb, ◌⊎◌, List, [], ◌∷◌, ◌++◌, length, take, drop, sym}
use Rattle.std.proofs.Common.{refl, ap, ◌∙◌, inl, inr, ⊎_elim, append_assoc, append-nil, arith, length-append, length-drop, take-append-drop, length-take-le}
use Rattle.std.proofs.Common.{take_all, take_at, le-ltb, ne_eqb, eqb-true}
use Rattle.numbers.specs.Choice.{pick, both, either}
use Rattle.numbers.proofs.Bounds.{picked}
use Rattle.slices.specs.Slices.{part}
use Rattle.digits.specs.Digits.{hex_of, upper, hex_text}
use Rattle.digits.proofs.Read.{either_true, bytes_small}
use Rattle.record.specs.Image.{image_label, image_block, image_bl0}
use Rattle.intel_hex.specs.Line.{good, line_feed, hex_line_text, data_record, end_record, digits_in, bytes_in, address_in, data_in, placed_of, checked_line_of}
use Rattle.intel_hex.proofs.OneLine.{good_is, good_long, data_good, data_address, data_in_lem, end_good, end_address}
use Rattle.intel_hex.specs.Export.{done, answer_number, both_accepted, export_label, exported_of}
use Rattle.intel_hex.specs.Export.{label_line, low_line, high_line, end_line, export_text, export_size}
use Rattle.intel_hex.specs.Import.{text_lines, whole_text, imported_of, import_size, import_answer}
use Rattle.intel_hex.specs.Theorems.{DataLine, GoodLines, Among, InSomeOrder, joined_text, Bytes, RoundTrip, ExportedText}
use Rattle.intel_hex.proofs.Texts.{granted, label_is, label_sized, block_sized, low_sized, high_sized, text_length}

-- ---- a line that is written is a line

no_feed : (d : ℕ) → eqb (hex_of upper d) line_feed ≡ false
unfolding hex_of
no_feed d =
    picked (λ (c : ℕ). eqb c line_feed ≡ false) (ltb d 10) (48 + d) (upper - 10 + d) (λ e. ne_eqb (48 + d) 10 (λ z. omega arith))
    (λ e. ne_eqb (55 + d) 10 (λ z. omega arith))

hex_line : (bytes rest : List ℕ) →
    text_lines ((hex_text upper bytes ++ (line_feed ∷ [])) ++ rest) ≡ (hex_text upper bytes ++ (line_feed ∷ [])) ∷ text_lines rest
hex_line [] rest = refl
hex_line (b ∷ bs) rest = rw (no_feed (b / 16), no_feed (b % 16), hex_line bs rest) refl

pub line_first : (bytes rest : List ℕ) → text_lines (hex_line_text bytes ++ rest) ≡ hex_line_text bytes ∷ text_lines rest
line_first bytes rest = rw (hex_line bytes rest) refl

-- in front of any text it is the first line
abbrev Line : List ℕ → Type 0
Line line = (rest : List ℕ) → text_lines (line ++ rest) ≡ line ∷ text_lines rest

data Lines : List (List ℕ) → Type 0 where
  none : Lines []
  one : {line : List ℕ} {ls : List (List ℕ)} → Line line → Lines ls → Lines (line ∷ ls)

-- such lines, and the end record behind them, are the lines of their text
text_lines_lem : {ls : List (List ℕ)} → Lines ls → text_lines (joined_text ls ++ end_line) ≡ ls ++ (end_line ∷ [])
text_lines_lem none = line_first end_record []
text_lines_lem (one {line = line} {ls = ls} first w) =
    ap text_lines (append_assoc line (joined_text ls) end_line)
    ∙ first (joined_text ls ++ end_line)
    ∙ ap (λ (r : List (List ℕ)). line ∷ r) (text_lines_lem w)

-- ---- three lines of data, and the end record

-- what is known of a line
pub record Known (line : List ℕ) (address : ℕ) (bytes : List ℕ) : Type 0 where
  pub first : (rest : List ℕ) → text_lines (line ++ rest) ≡ line ∷ text_lines rest
  pub passes : checked_line_of line ≡ good
  pub there : address_in line ≡ address
  pub has : data_in line ≡ bytes

-- whether the text is whole, and what it has, by the addresses of the three lines
abbrev count_by : ℕ → ℕ → ℕ → ℕ → ℕ
count_by address p q r = pick (eqb p address) 1 0 + (pick (eqb q address) 1 0 + (pick (eqb r address) 1 0 + (pick (eqb 0 address) 1 0 + 0)))

abbrev whole_by : ℕ → ℕ → ℕ → Bool
whole_by p q r =
    both (both (eqb (count_by 0x20 p q r) 1) (both (eqb (count_by 0x60 p q r) 1) (eqb (count_by 0x70 p q r) 1)))
    (both (eqb (count_by 0 p q r) 1) (eqb 0 0))

abbrev data_by : ℕ → ℕ → ℕ → ℕ → List ℕ → List ℕ → List ℕ → List ℕ
data_by address p q r l m n = pick (eqb p address) l (pick (eqb q address) m (pick (eqb r address) n (pick (eqb 0 address) (data_in end_line) [])))

abbrev imported_by : ℕ → ℕ → ℕ → List ℕ → List ℕ → List ℕ → List ℕ
imported_by p q r l m n = data_by 0x20 p q r l m n ++ (data_by 0x60 p q r l m n ++ data_by 0x70 p q r l m n)

module _ (A B C a b c : List ℕ) (fa : Known A 0x20 a) (fb : Known B 0x60 b) (fc : Known C 0x70 c) (room : ℕ) (fits : import_size ≤ room) where
  -- these are the lines of their text, which is taken, and has these bytes
  abbrev Taken : List (List ℕ) → Type 0
  Taken ls =
      (text_lines (joined_text ls ++ end_line) ≡ ls ++ (end_line ∷ [])) × (import_answer (ls ++ (end_line ∷ [])) room ≡ done)
      × (imported_of (ls ++ (end_line ∷ [])) ≡ a ++ (b ++ c))

  reads : {x y z l m n : List ℕ} {p q r : ℕ} → Known x p l → Known y q m → Known z r n → whole_by p q r ≡ true
      → imported_by p q r l m n ≡ a ++ (b ++ c) → Taken (x ∷ y ∷ z ∷ [])
  unfolding import_answer whole_text
  reads f g h whole bytes = (
    text_lines_lem (one f.first (one g.first (one h.first none))),
    rw (f.passes, g.passes, h.passes, end_good, f.there, g.there, h.there, end_address, whole, le-ltb room import_size fits) refl,
    rw (f.there, g.there, h.there, end_address, f.has, g.has, h.has) bytes,
  )

  -- no line is at two addresses
  apart : {x l m n o : List ℕ} {p q : ℕ} → Known l p n → Known m q o → x ≡ l → x ≡ m → p ≡ q
  apart f g e d = sym f.there ∙ ap address_in (sym e ∙ d) ∙ g.there

  -- where a line stands among three
  among : {line x y z : List ℕ} → Among line (x ∷ y ∷ z ∷ []) → (x ≡ line) ⊎ ((y ≡ line) ⊎ (z ≡ line))
  among (inl p) = inl p
  among (inr (inl p)) = inr (inl p)
  among (inr (inr (inl p))) = inr (inr p)
  among (inr (inr (inr p))) = absurd p

  -- the six orders; in any other case a line would be two of the three
  ordered : {x y z : List ℕ} → (x ≡ A) ⊎ ((y ≡ A) ⊎ (z ≡ A)) → (x ≡ B) ⊎ ((y ≡ B) ⊎ (z ≡ B)) →
      (x ≡ C) ⊎ ((y ≡ C) ⊎ (z ≡ C)) → Taken (x ∷ y ∷ z ∷ [])
  ordered (inl p) (inl q) t = absurd (let e = apart fa fb p q in omega arith)
  ordered (inl p) (inr (inl q)) (inl t) = absurd (let e = apart fa fc p t in omega arith)
  ordered (inl p) (inr (inl q)) (inr (inl t)) = absurd (let e = apart fb fc q t in omega arith)
  ordered (inl p) (inr (inl q)) (inr (inr t)) = rw (p, q, t) (reads fa fb fc refl refl)
  ordered (inl p) (inr (inr q)) (inl t) = absurd (let e = apart fa fc p t in omega arith)
  ordered (inl p) (inr (inr q)) (inr (inl t)) = rw (p, q, t) (reads fa fc fb refl refl)
  ordered (inl p) (inr (inr q)) (inr (inr t)) = absurd (let e = apart fb fc q t in omega arith)
  ordered (inr (inl p)) (inl q) (inl t) = absurd (let e = apart fb fc q t in omega arith)
  ordered (inr (inl p)) (inl q) (inr (inl t)) = absurd (let e = apart fa fc p t in omega arith)
  ordered (inr (inl p)) (inl q) (inr (inr t)) = rw (p, q, t) (reads fb fa fc refl refl)
  ordered (inr (inl p)) (inr (inl q)) t = absurd (let e = apart fa fb p q in omega arith)
  ordered (inr (inl p)) (inr (inr q)) (inl t) = rw (p, q, t) (reads fc fa fb refl refl)
  ordered (inr (inl p)) (inr (inr q)) (inr (inl t)) = absurd (let e = apart fa fc p t in omega arith)
  ordered (inr (inl p)) (inr (inr q)) (inr (inr t)) = absurd (let e = apart fb fc q t in omega arith)
  ordered (inr (inr p)) (inl q) (inl t) = absurd (let e = apart fb fc q t in omega arith)
  ordered (inr (inr p)) (inl q) (inr (inl t)) = rw (p, q, t) (reads fb fc fa refl refl)
  ordered (inr (inr p)) (inl q) (inr (inr t)) = absurd (let e = apart fa fc p t in omega arith)
  ordered (inr (inr p)) (inr (inl q)) (inl t) = rw (p, q, t) (reads fc fb fa refl refl)
  ordered (inr (inr p)) (inr (inl q)) (inr (inl t)) = absurd (let e = apart fb fc q t in omega arith)
  ordered (inr (inr p)) (inr (inl q)) (inr (inr t)) = absurd (let e = apart fa fc p t in omega arith)
  ordered (inr (inr p)) (inr (inr q)) t = absurd (let e = apart fa fb p q in omega arith)

  pub arranged : (ls : List (List ℕ)) → InSomeOrder A B C ls → Taken ls
  arranged [] w = absurd (omega (arith, w.many))
  arranged (x ∷ []) w = absurd (omega (arith, w.many))
  arranged (x ∷ y ∷ []) w = absurd (omega (arith, w.many))
  arranged (x ∷ y ∷ z ∷ []) w = ordered (among w.first) (among w.second) (among w.third)
  arranged (x ∷ y ∷ z ∷ l ∷ ls) w = absurd (omega (arith, w.many))

-- ---- of bytes, what is taken out are bytes

drop_bytes : (n : ℕ) (s : List ℕ) → Bytes s → Bytes (drop n s)
drop_bytes zero s h = h
drop_bytes (suc n) [] h = h
drop_bytes (suc n) (x ∷ xs) h = drop_bytes n xs (λ i. h (suc i))

take_bytes : (n : ℕ) (s : List ℕ) → Bytes s → Bytes (take n s)
take_bytes zero s h i = omega arith
take_bytes (suc n) [] h i = omega arith
take_bytes (suc n) (x ∷ xs) h zero = h 0
take_bytes (suc n) (x ∷ xs) h (suc i) = take_bytes n xs (λ j. h (suc j)) i

part_bytes : (n : ℕ) (s : List ℕ) (at : ℕ) → Bytes s → Bytes (part n s at)
part_bytes n s at h = take_bytes n (drop at s) (drop_bytes at s h)

-- ---- good lines

placed_in : (address : ℕ) → placed_of address ≡ true → (0x20 ≤ address) × (address < 65536)
placed_in address placed =
    ⊎_elim (λ e. let at = eqb-true address 0x20 e in (omega arith, omega arith))
    (λ h. ⊎_elim (λ e. let at = eqb-true address 0x60 e in (omega arith, omega arith))
    (λ e. let at = eqb-true address 0x70 e in (omega arith, omega arith))
    (either_true (eqb address 0x60) (eqb address 0x70) h))
    (either_true (eqb address 0x20) (either (eqb address 0x60) (eqb address 0x70)) placed)

-- one at such an address has 16 bytes
good_sized : (l : List ℕ) → checked_line_of l ≡ good → placed_of (address_in l) ≡ true → length (data_in l) ≡ 16
good_sized l good placed =
    let many = good_long l good (λ e. omega (arith, (placed_in (address_in l) placed).0)) in
    length-take-le 16 (drop 4 (bytes_in l)) (omega (arith, many, length-drop 4 (bytes_in l)))

only_such : (l : List ℕ) → checked_line_of l ≡ good → (l ≡ end_line) ⊎ DataLine (address_in l) (data_in l) l
only_such l good =
    ⊎_elim (λ e. inl e)
    (λ d. inr (record {
      placed = d.0;
      sized = good_sized l good d.0;
      small = part_bytes 16 (bytes_in l) 4 (bytes_small upper (omega arith) (digits_in l));
      written = d.1;
    }))
    (good_is l good)

such_read : (address : ℕ) (bytes l : List ℕ) → DataLine address bytes l → (checked_line_of l ≡ good) × (address_in l ≡ address) × (data_in l ≡ bytes)
such_read address bytes l d =
    let near = (placed_in address d.placed).1 in (
      ap checked_line_of d.written ∙ data_good address bytes near d.sized d.small d.placed,
      ap address_in d.written ∙ data_address address bytes near d.sized d.small,
      ap data_in d.written ∙ data_in_lem address bytes near d.sized d.small,
    )

pub good_lines : GoodLines
good_lines = record { only = only_such; end = end_good; sixteen = such_read }

-- ---- the lines of an export

known : (address : ℕ) (bytes : List ℕ) → address < 65536 → placed_of address ≡ true → length bytes ≡ 16 → Bytes bytes
    → Known (hex_line_text (data_record address bytes)) address bytes
known address bytes near placed sized small = record {
  first = line_first (data_record address bytes);
  passes = data_good address bytes near sized small placed;
  there = data_address address bytes near sized small;
  has = data_in_lem address bytes near sized small;
}

module _ (pack factory : List ℕ) (held : both_accepted pack factory ≡ true) where
  halves : part 16 (image_block pack) 0 ++ part 16 (image_block pack) 16 ≡ image_block pack
  halves =
      let long = block_sized pack factory held in
      ap (λ (r : List ℕ). take 16 (image_block pack) ++ r) (take_all 16 (drop 16 (image_block pack)) (omega (arith, length-drop 16 (image_block pack))))
      ∙ take-append-drop 16 (image_block pack)

  exported_sized : length (exported_of pack factory) ≡ import_size
  exported_sized = length-append (export_label pack factory) (image_block pack) ∙ omega (arith, label_sized pack factory held, block_sized pack factory held)

  module _ (small : Bytes pack) (other : Bytes factory) where
    label_bytes : Bytes (export_label pack factory)
    label_bytes =
        rw (label_is pack factory held)
        (picked Bytes (image_bl0 pack) (image_label pack) (image_label factory) (λ locked. part_bytes 16 pack 8 small) (λ free. part_bytes 16 factory 8 other))

    block_bytes : Bytes (image_block pack)
    block_bytes = part_bytes 32 pack 24 small

    back : (room : ℕ) → import_size ≤ room → (ls : List (List ℕ))
        → InSomeOrder (label_line (export_label pack factory)) (low_line (image_block pack)) (high_line (image_block pack)) ls
        → (import_answer (text_lines (joined_text ls ++ end_line)) room ≡ done)
        × (imported_of (text_lines (joined_text ls ++ end_line)) ≡ exported_of pack factory)
    back room fits ls w =
        let label = export_label pack factory in
        let low = part 16 (image_block pack) 0 in
        let high = part 16 (image_block pack) 16 in
        let sized = label_sized pack factory held in
        let long = block_sized pack factory held in
        let r =
        arranged (label_line label) (low_line (image_block pack)) (high_line (image_block pack)) label low high
        (known 0x20 label (omega arith) refl sized label_bytes)
        (known 0x60 low (omega arith) refl (low_sized label (image_block pack) sized long) (part_bytes 16 (image_block pack) 0 block_bytes))
        (known 0x70 high (omega arith) refl (high_sized label (image_block pack) sized long) (part_bytes 16 (image_block pack) 16 block_bytes))
        room fits ls w in
        rw r.0 (r.1, r.2 ∙ ap (λ (b : List ℕ). label ++ b) halves)

pub round_trip : RoundTrip
round_trip pack factory room after small other wrote ls text order lent said last fits read =
    let g = granted pack factory (length room) (sym wrote.answer) in
    let b = rw (← order.lines) at (back pack factory g.0 small other (length lent) fits ls order.arranged) in
    record {
      number = ap answer_number (read.answer ∙ b.0);
      sized = exported_sized pack factory g.0;
      bytes = read.written ∙ rw (b.0, b.1) refl;
    }

regroup : (a b c e : List ℕ) → (a ++ (b ++ (c ++ []))) ++ e ≡ a ++ (b ++ (c ++ e))
regroup a b c e = simp (append-nil, append_assoc)

pub unchanged : ExportedText
unchanged pack factory room after wrote =
    let g = granted pack factory (length room) (sym wrote.answer) in
    let label = export_label pack factory in
    let block = image_block pack in
    let all : after ≡ export_text label block ++ drop export_size room = rw (sym wrote.answer) at wrote.written in
    let text : take export_size after ≡ export_text label block
    =
    ap (take export_size) all
    ∙ take_at (export_text label block) (drop export_size room) export_size
    (text_length label block (label_sized pack factory g.0) (block_sized pack factory g.0)) in (
      text,
      record {
        arranged = record { many = refl; first = inl refl; second = inr (inl refl); third = inr (inr (inl refl)) };
        lines = text ∙ sym (regroup (label_line label) (low_line block) (high_line block) end_line);
      },
    )
