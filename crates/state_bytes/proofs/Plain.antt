-- A value is written as the bytes that it was read from exactly where each flag among them is 0 or 1.
use mathlib.Core.Path.{◌≡◌, refl, sym, ap, ◌∙◌}
use mathlib.Core.Bool.{Bool, true, false}
use mathlib.Core.List.{List, [], ◌∷◌, ◌++◌, map}
use Prim.Native.Nat.{ℕ, zero, suc, ◌+◌, ◌*◌, ◌/◌, ◌%◌, ◌≤◌, ◌<◌}
use native.Mathlib.Omega.{arith}
use borrow.Author.Tests.{ne_eqb, le-ltb}
use lib.Dec.{eqb, leb, ltb}
use lib.ListN.{length, get_or, take, drop, length-append, length-drop}
use lib.Seq.{drop-cons, take_all}
use Rattle.numbers.specs.Choice.{both}
use Rattle.slices.specs.Slices.{part, pair_at}
use Rattle.slices.proofs.Laws.{part_length, part_joined}
use Rattle.bus.specs.Ask.{same_bytes}
use Rattle.bus.proofs.Laws.{equal_same}
use Rattle.runs.proofs.Records.{Bytes}
use Rattle.state.specs.State.{counts_cycles}
use Rattle.gauge.specs.declared.Gauge.{Gauge}
use Rattle.state_bytes.specs.Layout.{Layout, number1, number2, number4, flag, flag_byte, flag_in, bytes, plain_at, ◌then◌, Fields, formed}
use Rattle.state_bytes.specs.Layout.{indexed, chained, out_each, repeated}
use Rattle.state_bytes.specs.State.{state_size, state_bytes, session_at, flag_places, profile_in, session_layout}
use Rattle.state_bytes.specs.State.{saved_fields, saved_layout, profile_fields, profile_layout, locks_fields, locks_layout, charge_fields, charge_layout}
use Rattle.state_bytes.specs.State.{cycles_fields, cycles_layout, trace_fields, trace_layout, since_fields, since_layout, average_fields, average_layout}
use Rattle.state_bytes.specs.State.{tick_fields, tick_layout, flow_fields, flow_layout, model_fields, model_layout, results_fields, results_layout}
use Rattle.state_bytes.specs.State.{reading_fields, reading_layout, flags_fields, flags_layout, shown_fields, shown_layout, block_fields, block_layout}
use Rattle.state_bytes.specs.State.{cells_fields, cells_layout, meter_fields, meter_layout, label_fields, label_layout, common_fields, common_layout}
use Rattle.state_bytes.specs.State.{gauge_fields, gauge_layout, session_fields, sound_meter}
use Rattle.state_bytes.specs.TrayState.{tray_fields, tray_layout, sound_each, sound_tray, tray_version, tray_state_size, tray_state_bytes, tray_at}
use Rattle.state_bytes.specs.Tested.{sound_places}

both_in_turn : (x y z : Bool) → both (both x y) z ≡ both x (both y z)
both_in_turn true y z = refl
both_in_turn false y z = refl

same_both : (a b c d : List ℕ) → length a ≡ length c → same_bytes (a ++ b) (c ++ d) ≡ both (same_bytes a c) (same_bytes b d)
same_both [] b [] d e = refl
same_both [] b (y ∷ c) d e = absurd (omega (arith, e))
same_both (x ∷ a) b [] d e = absurd (omega (arith, e))
same_both (x ∷ a) b (y ∷ c) d e =
    ap (both (eqb x y)) (same_both a b c d (omega (arith, e))) ∙ sym (both_in_turn (eqb x y) (same_bytes a c) (same_bytes b d))

plain_both : (s xs ys : List ℕ) → plain_at s (xs ++ ys) ≡ both (plain_at s xs) (plain_at s ys)
plain_both s [] ys = refl
plain_both s (x ∷ xs) ys =
    ap (both (ltb (get_or s x 0) 2)) (plain_both s xs ys) ∙ sym (both_in_turn (ltb (get_or s x 0) 2) (plain_at s xs) (plain_at s ys))

-- ---- a part by its bytes

part_one : (s : List ℕ) (i : ℕ) → i + 1 ≤ length s → part 1 s i ≡ get_or s i 0 ∷ []
part_one s i h = ap (take 1) (drop-cons s i 0 (omega arith))

part_two : (s : List ℕ) (i : ℕ) → i + 2 ≤ length s → part 2 s i ≡ get_or s i 0 ∷ get_or s (i + 1) 0 ∷ []
part_two s i h =
    let one = part_one s i (omega arith) in
    let next = part_one s (i + 1) (omega arith) in
    part_joined 1 1 s i ∙ (λ k. one k ++ next k)

-- ---- of each part

pub record Exact {A : Type 0} (l : Layout A) : Type 0 where
  pub long : (s : List ℕ) (i : ℕ) → i + l.size ≤ length s → length (l.out (l.at s i)) ≡ l.size
  pub same : (s : List ℕ) (i : ℕ) → Bytes s → i + l.size ≤ length s → same_bytes (l.out (l.at s i)) (part l.size s i) ≡ plain_at s (l.flags_from i)

-- what is written is what stood there
as_it_was : (l m : List ℕ) → l ≡ m → same_bytes l m ≡ true
as_it_was l m e = ap (λ (x : List ℕ). same_bytes x m) e ∙ equal_same m

one : Exact number1
one = record { long = λ s i h. refl; same = λ s i bytes h. as_it_was _ _ (sym (part_one s i h)) }

low_high : (s : List ℕ) (i : ℕ) → Bytes s → pair_at s i % 256 ∷ pair_at s i / 256 ∷ [] ≡ get_or s i 0 ∷ get_or s (i + 1) 0 ∷ []
low_high s i bytes =
    let low : pair_at s i % 256 ≡ get_or s i 0 = omega (arith, bytes i, bytes (i + 1)) in
    let high : pair_at s i / 256 ≡ get_or s (i + 1) 0 = omega (arith, bytes i, bytes (i + 1)) in
    λ k. low k ∷ high k ∷ []

two : Exact number2
two = record { long = λ s i h. refl; same = λ s i bytes h. as_it_was _ _ (low_high s i bytes ∙ sym (part_two s i h)) }

lowest : (x y : ℕ) → x < 256 → (x + 256 * y) % 256 ≡ x
lowest x y h = omega arith

four : Exact number4
four = record {
  long = λ s i h. refl;
  same = λ s i bytes h.
      let a = get_or s i 0 in
      let b = get_or s (i + 1) 0 in
      let c = get_or s (i + 2) 0 in
      let d = get_or s (i + 2 + 1) 0 in
      let n = pair_at s i + 65536 * pair_at s (i + 2) in
      let p : n % 256 ≡ a = omega (arith, bytes i) in
      let upper : n / 256 ≡ b + 256 * (c + 256 * d) = omega (arith, bytes i) in
      let q : n / 256 % 256 ≡ b = ap (λ (x : ℕ). x % 256) upper ∙ lowest b (c + 256 * d) (bytes (i + 1)) in
      let top : n / 65536 ≡ c + 256 * d = omega (arith, bytes i, bytes (i + 1)) in
      let r : n / 65536 % 256 ≡ c = ap (λ (x : ℕ). x % 256) top ∙ lowest c d (bytes (i + 2)) in
      let t : n / 16777216 ≡ d = omega (arith, bytes i, bytes (i + 1), bytes (i + 2)) in
      let here : part 4 s i ≡ a ∷ b ∷ c ∷ d ∷ [] =
      part_joined 2 2 s i ∙ (λ k. part_two s i (omega arith) k ++ part_two s (i + 2) (omega arith) k) in
      as_it_was _ _ ((λ k. p k ∷ q k ∷ r k ∷ t k ∷ []) ∙ sym here);
}

flag_same : (x : ℕ) → both (eqb (flag_byte (flag_in x)) x) true ≡ both (ltb x 2) true
flag_same zero = refl
flag_same (suc zero) = refl
flag_same (suc (suc n)) =
    rw (ne_eqb (suc (suc n)) 1 (λ e. omega (arith, e)), ne_eqb 0 (suc (suc n)) (λ e. omega (arith, e)), le-ltb (suc (suc n)) 2 (omega arith)) refl

bit : Exact flag
bit = record {
  long = λ s i h. refl;
  same = λ s i bytes h. ap (same_bytes (flag_byte (flag_in (get_or s i 0)) ∷ [])) (part_one s i h) ∙ flag_same (get_or s i 0);
}

row : (n : ℕ) → Exact (bytes n)
row n = record { long = λ s i h. part_length n s i h; same = λ s i bytes h. equal_same (part n s i) }

module _ {A B : Type 0} {a : Layout A} {b : Layout B} where
  behind : Exact a → Exact b → Exact (a then b)
  behind f g = record {
    long = λ s i h.
        let first = f.long s i (omega arith) in
        let second = g.long s (i + a.size) (omega arith) in
        omega (arith, length-append (a.out (a.at s i)) (b.out (b.at s (i + a.size))), first, second);
    same = λ s i bytes h.
        let x = a.out (a.at s i) in
        let y = b.out (b.at s (i + a.size)) in
        let first = f.same s i bytes (omega arith) in
        let second = g.same s (i + a.size) bytes (omega arith) in
        let even = f.long s i (omega arith) ∙ sym (part_length a.size s i (omega arith)) in
        ap (same_bytes (x ++ y)) (part_joined a.size b.size s i)
        ∙ same_both x y (part a.size s i) (part b.size s (i + a.size)) even
        ∙ (λ k. both (first k) (second k))
        ∙ sym (plain_both s (a.flags_from i) (b.flags_from (i + a.size)));
  }

-- a struct whose fields are given back, of what is read
of_read : {A B : Type 0} {a : Layout A} (form : Fields A B) → ((s : List ℕ) (i : ℕ) → form.from (form.to (a.at s i)) ≡ a.at s i) → Exact a
    → Exact (formed form a)
of_read {a = a} form undo f = record {
  long = λ s i h. ap (λ v. length (a.out v)) (undo s i) ∙ f.long s i h;
  same = λ s i bytes h. ap (λ v. same_bytes (a.out v) (part a.size s i)) (undo s i) ∙ f.same s i bytes h;
}

of_fields : {A B : Type 0} {a : Layout A} (form : Fields A B) → ((v : A) → form.from (form.to v) ≡ v) → Exact a → Exact (formed form a)
of_fields {a = a} form undo f = of_read form (λ s i. undo (a.at s i)) f

-- ---- of each struct

saved : Exact saved_layout
saved = of_fields saved_fields (λ v. refl) (behind two (behind one one))

profile_undone : (b : Bool) → counts_cycles (profile_in b) ≡ b
profile_undone true = refl
profile_undone false = refl

profile : Exact profile_layout
profile = of_fields profile_fields profile_undone bit

locks : Exact locks_layout
locks = of_fields locks_fields (λ v. refl) (behind bit bit)

charge : Exact charge_layout
charge = of_fields charge_fields (λ v. refl) (behind one (behind four (behind bit (behind bit four))))

cycles : Exact cycles_layout
cycles = of_fields cycles_fields (λ v. refl) (behind one four)

trace : Exact trace_layout
trace = of_fields trace_fields (λ v. refl) (behind bit (behind two (behind two bit)))

since : Exact since_layout
since = of_fields since_fields (λ v. refl) (behind bit two)

average : Exact average_layout
average = of_fields average_fields (λ v. refl) (behind four (behind two (behind bit two)))

tick : Exact tick_layout
tick = of_fields tick_fields (λ v. refl) (behind bit two)

flow : Exact flow_layout
flow = of_fields flow_fields (λ v. refl) (behind trace (behind since (behind average tick)))

model : Exact model_layout
model = of_fields model_fields (λ v. refl) (behind two (behind two two))

results : Exact results_layout
results = of_fields results_fields (λ v. refl) (behind one (behind one (behind two two)))

reading : Exact reading_layout
reading = of_fields reading_fields (λ v. refl) (behind two (behind two bit))

flags : Exact flags_layout
flags = of_fields flags_fields (λ v. refl) (behind bit (behind bit (behind bit bit)))

shown : Exact shown_layout
shown = of_fields shown_fields (λ v. refl) (behind model (behind results (behind reading flags)))

block : Exact block_layout
block = of_fields block_fields (λ v. refl) (behind (row 32) (row 32))

cells : Exact cells_layout
cells = of_fields cells_fields (λ v. refl) (behind saved (behind profile (behind locks block)))

meter : Exact meter_layout
meter = of_fields meter_fields (λ v. refl) (behind cells (behind charge (behind flow (behind cycles shown))))

pub label : Exact label_layout
label = of_fields label_fields (λ v. refl) (behind (row 16) (row 16))

pub common : Exact common_layout
common = of_fields common_fields (λ v. refl) (behind (row 8) bit)

gauge : Exact gauge_layout
gauge = of_fields gauge_fields (λ v. refl) (behind label (behind common meter))

session : Exact session_layout
session = of_fields session_fields (λ v. refl) (behind bit gauge)

-- ---- of the state: the version stands first

written_plain : (b : List ℕ) → length b ≡ state_size → get_or b 0 0 ≡ 1 → Bytes b → same_bytes (state_bytes (session_at b)) b ≡ plain_at b flag_places
unfolding state_bytes session_at
written_plain b size v bytes =
    let whole : b ≡ 1 ∷ part 171 b 1 =
    drop-cons b 0 0 (omega (arith, size)) ∙ (λ k. v k ∷ sym (take_all 171 (drop 1 b) (omega (arith, length-drop 1 b, size))) k) in
    ap (same_bytes (1 ∷ session_layout.out (session_layout.at b 1))) whole ∙ session.same b 1 bytes (omega (arith, size))

-- what the code tests of the bytes of a state is what the definition tests of its meter and of its flags
flag_first : (f m p : Bool) → both f (both (both m p) true) ≡ both m (both f p)
flag_first true true true = refl
flag_first true true false = refl
flag_first true false p = refl
flag_first false true p = refl
flag_first false false p = refl

pub state_tested : (b : List ℕ) → length b ≡ state_size → get_or b 0 0 ≡ 1 → Bytes b
    → both (ltb (get_or b 1 0) 2) (sound_places b 2 0 1) ≡ both (sound_meter (session_at b).gauge.meter) (same_bytes (state_bytes (session_at b)) b)
unfolding session_at
state_tested b size v bytes =
    let sound = sound_meter (gauge_layout.at b 2).meter in
    flag_first (ltb (get_or b 1 0) 2) sound (plain_at b (gauge_layout.flags_from 2)) ∙ ap (both sound) (sym (written_plain b size v bytes))

-- ---- of a tray: so many places

module _ (s : List ℕ) (i : ℕ) where
  abbrev placed : ℕ → Gauge
  placed j = gauge_layout.at s (i + j * 170)

  abbrev flagged : ℕ → List ℕ
  flagged j = gauge_layout.flags_from (i + j * 170)

  places_long : (k n : ℕ) → i + (k + n) * 170 ≤ length s → length (out_each gauge_layout (indexed placed k n)) ≡ n * 170
  places_long k zero h = refl
  places_long k (suc n) h =
      let here = gauge.long s (i + k * 170) (omega arith) in
      let rest = places_long (k + 1) n (omega arith) in
      omega (arith, length-append (gauge_layout.out (placed k)) (out_each gauge_layout (indexed placed (k + 1) n)), here, rest)

  places_same : Bytes s → (k n : ℕ) → i + (k + n) * 170 ≤ length s
      → same_bytes (out_each gauge_layout (indexed placed k n)) (part (n * 170) s (i + k * 170)) ≡ plain_at s (chained (indexed flagged k n))
  places_same bytes k zero h = refl
  places_same bytes k (suc n) h =
      let x = gauge_layout.out (placed k) in
      let y = out_each gauge_layout (indexed placed (k + 1) n) in
      let size : suc n * 170 ≡ 170 + n * 170 = omega arith in
      let next : i + k * 170 + 170 ≡ i + (k + 1) * 170 = omega arith in
      let even = gauge.long s (i + k * 170) (omega arith) ∙ sym (part_length 170 s (i + k * 170) (omega arith)) in
      let first = gauge.same s (i + k * 170) bytes (omega arith) in
      let rest = places_same bytes (k + 1) n (omega arith) in
      ap (λ (m : ℕ). same_bytes (x ++ y) (part m s (i + k * 170))) size
      ∙ ap (same_bytes (x ++ y)) (part_joined 170 (n * 170) s (i + k * 170))
      ∙ ap (λ (m : ℕ). same_bytes (x ++ y) (part 170 s (i + k * 170) ++ part (n * 170) s m)) next
      ∙ same_both x y (part 170 s (i + k * 170)) (part (n * 170) s (i + (k + 1) * 170)) even
      ∙ (λ t. both (first t) (rest t))
      ∙ sym (plain_both s (flagged k) (chained (indexed flagged (k + 1) n)))

eight_places : Exact (repeated 8 gauge_layout)
eight_places = record {
  long = λ s i h. places_long s i 0 8 (omega arith);
  same = λ s i bytes h.
      let first : i ≡ i + 0 * 170 = omega arith in
      ap (λ (m : ℕ). same_bytes (out_each gauge_layout (indexed (placed s i) 0 8)) (part 1360 s m)) first ∙ places_same s i bytes 0 8 (omega arith);
}

tray : Exact tray_layout
tray = of_read tray_fields (λ s i. refl) (behind one (behind bit eight_places))

tray_written_plain : (b : List ℕ) → length b ≡ tray_state_size → get_or b 0 0 ≡ tray_version → Bytes b
    → same_bytes (tray_state_bytes (tray_at b)) b ≡ plain_at b (tray_layout.flags_from 1)
unfolding tray_state_bytes tray_at
tray_written_plain b size v bytes =
    let whole : b ≡ tray_version ∷ part 1362 b 1 =
    drop-cons b 0 0 (omega (arith, size)) ∙ (λ k. v k ∷ sym (take_all 1362 (drop 1 b) (omega (arith, length-drop 1 b, size))) k) in
    ap (same_bytes (tray_version ∷ tray_layout.out (tray_layout.at b 1))) whole ∙ tray.same b 1 bytes (omega (arith, size))

-- what the code tests of each place is what the definition tests of all meters and of all flags
in_pairs : (a b c d : Bool) → both (both a b) (both c d) ≡ both (both a c) (both b d)
in_pairs true true c d = refl
in_pairs true false true d = refl
in_pairs true false false d = refl
in_pairs false b c d = refl

module _ (b : List ℕ) (from : ℕ) where
  places_split : (k n : ℕ) → sound_places b from k n
      ≡ both (sound_each (map (λ (g : Gauge). g.meter) (indexed (placed b from) k n))) (plain_at b (chained (indexed (flagged b from) k n)))
  places_split k zero = refl
  places_split k (suc n) =
      let m = sound_meter (placed b from k).meter in
      let p = plain_at b (flagged b from k) in
      let ms = sound_each (map (λ (g : Gauge). g.meter) (indexed (placed b from) (k + 1) n)) in
      let ps = plain_at b (chained (indexed (flagged b from) (k + 1) n)) in
      ap (both (both m p)) (places_split (k + 1) n)
      ∙ in_pairs m p ms ps
      ∙ ap (both (both m ms)) (sym (plain_both b (flagged b from k) (chained (indexed (flagged b from) (k + 1) n))))

in_turn : (a b c d : Bool) → both a (both b (both c d)) ≡ both (both a c) (both b d)
in_turn true true c d = refl
in_turn true false true d = refl
in_turn true false false d = refl
in_turn false b c d = refl

pub tray_tested : (b : List ℕ) → length b ≡ tray_state_size → get_or b 0 0 ≡ tray_version → Bytes b
    → both (leb (get_or b 1 0) 8) (both (ltb (get_or b 2 0) 2) (sound_places b 3 0 8)) ≡
    both (sound_tray (tray_at b)) (same_bytes (tray_state_bytes (tray_at b)) b)
unfolding sound_tray tray_at
tray_tested b size v bytes =
    let few = leb (get_or b 1 0) 8 in
    let closed = ltb (get_or b 2 0) 2 in
    let sound = sound_each (map (λ (g : Gauge). g.meter) (indexed (placed b 3) 0 8)) in
    let plain = plain_at b (chained (indexed (flagged b 3) 0 8)) in
    ap (λ (x : Bool). both few (both closed x)) (places_split b 3 0 8)
    ∙ in_turn few closed sound plain
    ∙ ap (both (both few sound)) (sym (tray_written_plain b size v bytes))
