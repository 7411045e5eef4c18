-- What the class of a transaction says of the addresses that it touches.
use mathlib.Core.Path.{◌≡◌, refl}
use mathlib.Core.Bool.{Bool, true, false, not}
use mathlib.Core.List.{List, [], ◌∷◌}
use Prim.Native.Nat.{ℕ, zero, suc, ◌+◌, ◌≤◌, ◌<◌, min, max}
use native.Mathlib.Omega.{arith}
use borrow.Author.Tests.{leb-true, leb-false, le-leb, le-ltb, not-true, eqb-true, eqb-false}
use lib.Dec.{leb, eqb}
use Rattle.numbers.specs.Choice.{pick, both}
use Rattle.label.specs.Label.{in_label, in_block}
use Rattle.label.proofs.Addresses.{in_label_low, in_label_high, in_label_between}
use Rattle.bus.specs.declared.Command.{Command}
use Rattle.demands.specs.Sections.{labelling, gauging, fence}
use Rattle.demands.specs.Class.{span_of, block_of, some_of, all_of, outside, locks, labels_of, touched_class}
use Rattle.numbers.proofs.Bounds.{both_true}
use Rattle.demands.proofs.Choice.{contrary, both_false}

-- Classes

-- a label event touches some address, and all in 20h..2Fh, and is no lock
pub record Labels (command : Command) (touched : List ℕ) : Type 0 where
  pub some : some_of touched ≡ true
  pub all : all_of in_label touched ≡ true
  pub no_lock : locks command ≡ false

pub class_labels : (command : Command) (touched : List ℕ) → touched_class command touched ≡ labelling → Labels command touched
unfolding touched_class labels_of
class_labels command touched e =
    let f = go (labels_of command touched) (all_of outside touched) e in
    let h = both_true (some_of touched) (both (all_of in_label touched) (not (locks command))) f in
    let k = both_true (all_of in_label touched) (not (locks command)) h.1 in
    record { some = h.0; all = k.0; no_lock = not-true (locks command) k.1 }
  where
    go : (s t : Bool) → pick s labelling (pick t gauging fence) ≡ labelling → s ≡ true
    go true t e = refl
    go false true e = contrary cc
    go false false e = contrary cc

-- a gauge event touches nothing in 20h..2Fh
pub class_gauges : (command : Command) (touched : List ℕ) → touched_class command touched ≡ gauging → all_of outside touched ≡ true
unfolding touched_class
class_gauges command touched e = go (labels_of command touched) (all_of outside touched) e
  where
    go : (s t : Bool) → pick s labelling (pick t gauging fence) ≡ gauging → t ≡ true
    go true t e = contrary cc
    go false true e = refl
    go false false e = contrary cc

-- Spans

-- what holds of all addresses of a span holds of each, up to FFh
pub span_at_lem : (test : ℕ → Bool) (a n : ℕ) → all_of test (span_of a n) ≡ true → (j : ℕ) → a ≤ j → j < a + n → j ≤ 0xff → test j ≡ true
span_at_lem test a zero e j low high up = absurd (omega arith)
span_at_lem test a (suc n) e j low high up =
    let h = both_true (test a) (all_of test (span_of (a + 1) n)) (rw (le-leb a 0xff (omega arith)) at e) in
    go (eqb a j) refl h.0 (λ k. span_at_lem test (a + 1) n h.1 j k (omega arith) up)
  where
    go : (t : Bool) → eqb a j ≡ t → test a ≡ true → (a + 1 ≤ j → test j ≡ true) → test j ≡ true
    go true f here later = rw (eqb-true a j f) at here
    go false f here later = later (omega (arith, eqb-false a j f))

-- a span that touches some address starts at one
span_starts : (a n : ℕ) → some_of (span_of a n) ≡ true → a ≤ 0xff
span_starts a zero e = contrary cc
span_starts a (suc n) e = go (leb a 0xff) refl e
  where
    go : (t : Bool) → leb a 0xff ≡ t → some_of (pick t (a ∷ span_of (a + 1) n) []) ≡ true → a ≤ 0xff
    go true h f = leb-true a 0xff h
    go false h f = contrary cc

-- every address that a read or write of one class runs over, past FFh too, lies in 20h..2Fh, or none does
abbrev pub RunsIn : Bool → ℕ → ℕ → Type 0
RunsIn t a n = (j : ℕ) → a ≤ j → j < a + n → in_label j ≡ t

past_end : (j : ℕ) → 0xff < j → in_label j ≡ false
unfolding in_label
past_end j h = rw (le-ltb j 0x30 (omega arith)) (both_false (leb 0x20 j))

pub runs_label : (a n : ℕ) → some_of (span_of a n) ≡ true → all_of in_label (span_of a n) ≡ true → RunsIn true a n
unfolding in_label
runs_label a n some all j low high = go (leb j 0xff) refl
  where
    go : (t : Bool) → leb j 0xff ≡ t → in_label j ≡ true
    go true h = span_at_lem in_label a n all j low high (leb-true j 0xff h)
    go false h =
        let k = leb-false j 0xff h in
        let last : in_label 0xff ≡ true = span_at_lem in_label a n all 0xff (span_starts a n some) (omega arith) (omega arith) in
        contrary cc

pub runs_meter : (a n : ℕ) → all_of outside (span_of a n) ≡ true → RunsIn false a n
runs_meter a n all j low high = go (leb j 0xff) refl
  where
    go : (t : Bool) → leb j 0xff ≡ t → in_label j ≡ false
    go true h = not-true (in_label j) (span_at_lem outside a n all j low high (leb-true j 0xff h))
    go false h = past_end j (leb-false j 0xff h)

-- in 20h..2Fh it starts and ends
pub runs_within : (a n : ℕ) → some_of (span_of a n) ≡ true → RunsIn true a n → (0x20 ≤ a) × (a + n ≤ 0x30)
runs_within a zero some runs = contrary cc
runs_within a (suc n) some runs =
    (in_label_low a (runs a (omega arith) (omega arith)), omega (arith, in_label_high (a + n) (runs (a + n) (omega arith) (omega arith))))

-- where none is in 20h..2Fh it ends below or starts above
pub runs_beside : (a n : ℕ) → RunsIn false a n → min (a + n) 0x30 ≤ max a 0x20
runs_beside a n runs = go (leb (min (a + n) 0x30) (max a 0x20)) refl
  where
    go : (t : Bool) → leb (min (a + n) 0x30) (max a 0x20) ≡ t → min (a + n) 0x30 ≤ max a 0x20
    go true e = leb-true (min (a + n) 0x30) (max a 0x20) e
    go false e =
        let h = leb-false (min (a + n) 0x30) (max a 0x20) e in
        let out = runs (max a 0x20) (omega arith) (omega arith) in
        let in-it = in_label_between (max a 0x20) (omega arith) (omega arith) in
        contrary cc

-- Blocks

abbrev block : Bool → Bool → List ℕ
block s t = pick s (span_of 0x20 16) (pick t (span_of 0x60 32) [])

pub block_label : (a : ℕ) → some_of (block_of a) ≡ true → all_of in_label (block_of a) ≡ true → in_label a ≡ true
unfolding block_of in_label
block_label a some all = go (in_label a) (in_block a) some all
  where
    go : (s t : Bool) → some_of (block s t) ≡ true → all_of in_label (block s t) ≡ true → s ≡ true
    go true t e f = refl
    go false true e f = contrary cc
    go false false e f = contrary cc

pub block_meter : (a : ℕ) → all_of outside (block_of a) ≡ true → in_label a ≡ false
unfolding block_of in_label
block_meter a all = go (in_label a) (in_block a) all
  where
    go : (s t : Bool) → all_of outside (block s t) ≡ true → s ≡ false
    go true t e = contrary cc
    go false t e = refl
