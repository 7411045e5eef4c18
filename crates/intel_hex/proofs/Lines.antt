-- What follows of the definitions of lines, for the loops that go from line to line.
use Rattle.std.proofs.Common.{◌≡◌, ℕ, suc, ◌+◌, ◌<◌, ◌≤◌, Bool, true, false, eqb, ltb, List, [], ◌∷◌, ◌++◌, length, drop, sym, refl, ap, ◌∙◌}
use Rattle.std.specs.Prelude.{Option, Some, None, Ok, Err}
use Rattle.std.specs.Borrow.{Bor}
use Rattle.std.specs.Iterator.{YieldsFirstRef, Drains, DrainsIf}
use Rattle.std.specs.List.{filter, last_or, position_or_len}
use Rattle.std.proofs.lemmas.Iterator.{items_from_drains}
use Rattle.std.proofs.lemmas.Iterator.Consumers.{YieldsList-from_first}
use Rattle.intel_hex.specs.declared.TextLines.{TextLines}
use Rattle.std.proofs.Common.{min, ltb-true, cond, map, arith, length-append, ltb-false, eq-eqb, eqb-true}
use Rattle.numbers.specs.Choice.{pick, both}
use Rattle.numbers.proofs.Bounds.{picked, both_true}
use Rattle.slices.specs.Slices.{put}
use Rattle.slices.proofs.Laws.{put_front}
use Rattle.digits.specs.Digits.{Writing}
use Rattle.intel_hex.specs.Line.{CheckedLine, good, line_feed, bytes_in, address_in, data_in, checked_line_of}
use Rattle.intel_hex.proofs.Laws.{data_length}
use Rattle.intel_hex.proofs.OneLine.{good_long}
use Rattle.intel_hex.specs.declared.HexRefusal.TheVariants as why
use Rattle.intel_hex.specs.Export.{Answer, done}
use Rattle.intel_hex.specs.Import.{ahead_of_lines, lines_left, text_lines, Cut, after_line, lines_answer, count_of, once_of}
use Rattle.intel_hex.specs.Import.{last_address, whole_text, data_at, import_size, after_lines, import_answer}

-- ---- the end of the first line, looked for

-- how many bytes come before the first line feed
abbrev pub unfed : List ℕ → ℕ
unfed text = position_or_len (λ (b : ℕ). eqb b line_feed) text

abbrev end_of : List ℕ → ℕ
end_of text = min (unfed text + 1) (length text)

cut_first : (c : ℕ) (cs : List ℕ) → eqb c line_feed ≡ true → Cut (c ∷ cs) (end_of (c ∷ cs))
cut_first c cs fed =
    let none : unfed (c ∷ cs) ≡ 0 = rw fed refl in
    let end : end_of (c ∷ cs) ≡ 1 = omega (arith, none) in
    rw end (record { onward = omega arith; within = omega arith; lines = rw fed refl })

cut_last : (c : ℕ) → eqb c line_feed ≡ false → Cut (c ∷ []) (end_of (c ∷ []))
cut_last c other =
    let end : end_of (c ∷ []) ≡ 1 = omega arith in
    rw end (record { onward = omega arith; within = omega arith; lines = rw other refl })

cut_later : (c : ℕ) (cs : List ℕ) → eqb c line_feed ≡ false → Cut cs (end_of cs) → Cut (c ∷ cs) (end_of (c ∷ cs))
cut_later c cs other w =
    let more : unfed (c ∷ cs) ≡ 1 + unfed cs = rw other refl in
    let end : end_of (c ∷ cs) ≡ suc (end_of cs) = omega (arith, more) in
    rw end (record { onward = omega arith; within = omega (arith, w.within); lines = rw (other, w.lines) refl })

line_cut : (text : List ℕ) → 0 < length text → Cut text (end_of text)
line_cut [] some = absurd (omega arith)
line_cut (c ∷ []) some = by (eqb c line_feed) refl
  where
    by : (b : Bool) → eqb c line_feed ≡ b → Cut (c ∷ []) (end_of (c ∷ []))
    by true e = cut_first c [] e
    by false e = cut_last c e
line_cut (c ∷ d ∷ ds) some = by (eqb c line_feed) refl (line_cut (d ∷ ds) (omega arith))
  where
    by : (b : Bool) → eqb c line_feed ≡ b → Cut (d ∷ ds) (end_of (d ∷ ds)) → Cut (c ∷ d ∷ ds) (end_of (c ∷ d ∷ ds))
    by true e w = cut_first c (d ∷ ds) e
    by false e w = cut_later c (d ∷ ds) e w

-- by what `position` found
abbrev pub end_by : Option ℕ → ℕ → ℕ
end_by (Some i) size = i + 1
end_by None size = size

pub cut_found : (text : List ℕ) (found : Option ℕ) → 0 < length text → found ≡ cond (ltb (unfed text) (length text)) (Some (unfed text)) None
    → Cut text (end_by found (length text))
cut_found text found some is = rw is (by (ltb (unfed text) (length text)) refl)
  where
    by : (b : Bool) → ltb (unfed text) (length text) ≡ b → Cut text (end_by (cond b (Some (unfed text)) None) (length text))
    by true e =
        let end : end_of text ≡ unfed text + 1 = omega (arith, ltb-true (unfed text) (length text) e) in
        rw end at (line_cut text some)
    by false e =
        let end : end_of text ≡ length text = omega (arith, ltb-false (unfed text) (length text) e) in
        rw end at (line_cut text some)

-- there are no more lines than bytes
pub lines_few : (text : List ℕ) → length (text_lines text) ≤ length text
lines_few [] = omega arith
lines_few (c ∷ cs) =
    picked (λ (ls : List (List ℕ)). length ls ≤ suc (length cs)) (eqb c line_feed) ((c ∷ []) ∷ text_lines cs) (ahead_of_lines c (text_lines cs))
    (λ e. omega (arith, lines_few cs)) (λ e. by (text_lines cs) (lines_few cs))
  where
    by : (ls : List (List ℕ)) → length ls ≤ length cs → length (ahead_of_lines c ls) ≤ suc (length cs)
    by [] h = omega arith
    by (l ∷ ls) h = omega arith

-- how many lines have an address, by the list of those that have it
pub count_is : (address : ℕ) (ls : List (List ℕ)) → length (filter (λ (l : List ℕ). eqb (address_in l) address) ls) ≡ count_of address ls
count_is address [] = refl
count_is address (l ∷ ls) = by (eqb (address_in l) address) (count_is address ls)
  where
    by : (b : Bool) → length (filter (λ (m : List ℕ). eqb (address_in m) address) ls) ≡ count_of address ls
        → length (cond b (l ∷ filter (λ (m : List ℕ). eqb (address_in m) address) ls) (filter (λ (m : List ℕ). eqb (address_in m) address) ls))
        ≡ pick b 1 0 + count_of address ls
    by true e = omega (arith, e)
    by false e = omega (arith, e)

-- the address of the last of some lines that an iterator gave, or of the line before them
abbrev pub last_by : Option (Bor (List ℕ)) → ℕ
last_by None = 1
last_by (Some l) = address_in l.now

last_of : (first : Option (Bor (List ℕ))) (ls : List (Bor (List ℕ)))
    → last_address (last_by first) (map (λ (l : Bor (List ℕ)). l.now) ls) ≡ last_by (last_or first ls)
last_of first [] = refl
last_of first (l ∷ ls) = last_of (Some l) ls

pub last_is : {it : TextLines} (text : List ℕ) {last : Option (Bor (List ℕ))} → lines_left it ≡ text_lines text
    → (ls : List (Bor (List ℕ))) × Drains (YieldsFirstRef lines_left) it ls × (last ≡ last_or None ls) → last_by last ≡ last_address 1 (text_lines text)
last_is {it = it} text left ran =
    let drained : DrainsIf (YieldsFirstRef lines_left) (Unit {0}) it ran.0 = (ran.1.1.0, ran.1.1.1, λ _. (ran.1.0, ran.1.1.2)) in
    let all = items_from_drains ran.0 drained (YieldsList-from_first (λ (l : Bor (List ℕ)). l.now) lines_left (text_lines text) left) in
    ap last_by ran.2 ∙ sym (last_of None ran.0) ∙ ap (last_address 1) all

-- no line is empty
abbrev first_length : List (List ℕ) → ℕ
first_length [] = 1
first_length (l ∷ ls) = length l

first_some : (text : List ℕ) → 0 < first_length (text_lines text)
first_some [] = omega arith
first_some (c ∷ cs) =
    picked (λ (ls : List (List ℕ)). 0 < first_length ls) (eqb c line_feed) ((c ∷ []) ∷ text_lines cs) (ahead_of_lines c (text_lines cs))
    (λ e. omega arith) (λ e. by (text_lines cs))
  where
    by : (ls : List (List ℕ)) → 0 < first_length (ahead_of_lines c ls)
    by [] = omega arith
    by (l ∷ ls) = omega arith

pub line_some : (text : List ℕ) {line : List ℕ} {ls : List (List ℕ)} → text_lines text ≡ line ∷ ls → 0 < length line
line_some text e = omega (arith, first_some text, ap first_length e)

pub data_here : {address : ℕ} {line : List ℕ} {ls rest : List (List ℕ)} → ls ≡ line ∷ rest → address_in line ≡ address → data_at address ls ≡ data_in line
data_here {address} {line} first same = ap (data_at address) first ∙ rw (eq-eqb (address_in line) address same) refl

-- ---- where no line is bad, the data at an address that is there once are 16 bytes

after_done : (x : CheckedLine) (y : Answer) → after_line x y ≡ done → (x ≡ good) × (y ≡ done)
after_done (Ok _) y e = (refl, e)
after_done (Err fault) y e = let z : ◌≡◌ {A = ℕ} 0 1 = cc in absurd (omega arith)

pub data_sized : (address : ℕ) (ls : List (List ℕ)) → (address ≡ 0 → ⊥) → lines_answer ls ≡ done → count_of address ls ≡ 1 →
    length (data_at address ls) ≡ 16
data_sized address [] some good once = absurd (omega arith)
data_sized address (l ∷ ls) some good once =
    by (eqb (address_in l) address) refl (data_sized address ls some (after_done (checked_line_of l) (lines_answer ls) good).1)
  where
    by : (b : Bool) → eqb (address_in l) address ≡ b → (count_of address ls ≡ 1 → length (data_at address ls) ≡ 16) →
        length (data_at address (l ∷ ls)) ≡ 16
    by true e later =
        let long : length (bytes_in l)
        ≡ 21 = good_long l (after_done (checked_line_of l) (lines_answer ls) good).0 (λ z. some (sym (eqb-true (address_in l) address e) ∙ z)) in
        rw e (data_length l (omega arith))
    by false e later = rw e (later (omega (arith, rw e at once)))

-- ---- what `Ok` tells

module _ (ls : List (List ℕ)) (room : ℕ) where
  answered : (x : Answer) (b c : Bool) → after_lines x (pick b (pick c (Err why.Room) done) (Err why.Whole)) ≡ done →
      (x ≡ done) × (b ≡ true) × (c ≡ false)
  answered (Ok _) true true e = let z : ◌≡◌ {A = ℕ} 0 1 = cc in absurd (omega arith)
  answered (Ok _) true false e = (refl, refl, refl)
  answered (Ok _) false c e = let z : ◌≡◌ {A = ℕ} 0 1 = cc in absurd (omega arith)
  answered (Err w) b c e = let z : ◌≡◌ {A = ℕ} 0 1 = cc in absurd (omega arith)

  module _ (is : import_answer ls room ≡ done) where
    tests : (lines_answer ls ≡ done) × (whole_text ls ≡ true) × (ltb room import_size ≡ false)
    unfolding import_answer
    tests = answered (lines_answer ls) (whole_text ls) (ltb room import_size) is

    pub import_fits : import_size ≤ room
    import_fits = ltb-false room import_size tests.2

    -- the three records of data are there once
    counts : (count_of 0x20 ls ≡ 1) × (count_of 0x60 ls ≡ 1) × (count_of 0x70 ls ≡ 1)
    unfolding whole_text
    counts =
        let three = both (once_of 0x20 ls) (both (once_of 0x60 ls) (once_of 0x70 ls)) in
        let all = both_true three (both (once_of 0 ls) (eqb (last_address 1 ls) 0)) tests.1 in
        let first = both_true (once_of 0x20 ls) (both (once_of 0x60 ls) (once_of 0x70 ls)) all.0 in
        let other = both_true (once_of 0x60 ls) (once_of 0x70 ls) first.1 in
        (eqb-true (count_of 0x20 ls) 1 first.0, eqb-true (count_of 0x60 ls) 1 other.0, eqb-true (count_of 0x70 ls) 1 other.1)

    pub import_sized : (length (data_at 0x20 ls) ≡ 16) × (length (data_at 0x60 ls) ≡ 16) × (length (data_at 0x70 ls) ≡ 16)
    import_sized = (
      data_sized 0x20 ls (λ e. omega arith) tests.0 counts.0,
      data_sized 0x60 ls (λ e. omega arith) tests.0 counts.1,
      data_sized 0x70 ls (λ e. omega arith) tests.0 counts.2,
    )

-- three parts of 16 bytes, one behind the other, at the front of a room
pub three_put : (a b c : List ℕ) {most next : ℕ} {room after : List ℕ} → length a ≡ 16 → length b ≡ 16 → length c ≡ 16 → import_size ≤ length room
    → Writing most (a ++ (b ++ c)) room 0 next after → after ≡ (a ++ (b ++ c)) ++ drop import_size room
three_put a b c {room = room} p q r fits w =
    let all : length (a ++ (b ++ c)) ≡ import_size = omega (arith, length-append a (b ++ c), length-append b c) in
    w.written
    ∙ put_front room (a ++ (b ++ c)) (omega arith)
    ∙ ap (λ (n : ℕ). (a ++ (b ++ c)) ++ drop n room) all
