-- No two packs of a run have the same address, so that a transaction that the search matches to one of them selects no other.
use mathlib.Core.Path.{◌≡◌, refl, sym, ap, ◌∙◌}
use mathlib.Core.Bool.{Bool, true, false}
use mathlib.Core.List.{List}
use Prim.Native.Nat.{ℕ, ◌<◌, zero-le}
use native.Mathlib.Omega.{arith}
use borrow.Author.Tests.{eqb-true, eqb-false}
use lib.Dec.{ltb, eqb}
use lib.ListN.{length, take, drop}
use Rattle.std.specs.Prelude.{Ok}
use Rattle.numbers.specs.Choice.{pick}
use Rattle.state.specs.declared.Profile.{Profile}
use Rattle.bus.specs.declared.Rom.{Rom}
use Rattle.bus.specs.declared.Rom.TheVariants as rom
use Rattle.bus.specs.declared.Transaction.{Transaction}
use Rattle.bus.specs.Ask.{same_bytes, own_of}
use Rattle.bus.proofs.Laws.{equal_same, same_equal}
use Rattle.replies.specs.declared.Source.TheVariants.{Idle}
use Rattle.replies.specs.Reply.{selected_of, net_source_of}
use Rattle.gauge.specs.declared.Gauge.{Gauge}
use Rattle.gauge.specs.Image.{image_of}
use Rattle.record.specs.declared.Kind.{Kind}
use Rattle.record.specs.declared.Event.{Event}
use Rattle.record.specs.declared.Event.TheVariants.{Image, Change, Transact}
use Rattle.record.specs.Image.{image_address}
use Rattle.runs.specs.Record.{Rec}
use Rattle.runs.specs.Run.{end_after}
use Rattle.tray_record.specs.declared.Tray.{Tray}
use Rattle.std.specs.Prelude.{Option, Some, None, is_some}
use Rattle.tray_record.specs.Tray.{empty_tray, no_gauge, pack_of, search_of, again_of, Reach, one, every, nobody, reach_found, matched_of, reach_by}
use Rattle.tray_record.specs.Tray.{tray_reach}
use Rattle.tray_record.specs.Tray.{tray_event, tray_did}
use Rattle.demands.proofs.Choice.{contrary}
use Rattle.demands.proofs.Packs.{Eight, search_none}
use Rattle.demands.proofs.Asked.{Asks, matched_found}
use Rattle.demands.proofs.Filled.{pack_after, count_after, event_pack, event_count, event_eight, address_after_lem, end_keeps, empty_filled}

abbrev address_in : Tray → ℕ → List ℕ
address_in τ i = (pack_of τ i).common.address

pub record Distinct (τ : Tray) : Type 0 where
  pub eight : Eight τ
  pub own : (i j : ℕ) → i < τ.count → j < τ.count → address_in τ i ≡ address_in τ j → i ≡ j

-- Each event keeps it

module _ (τ : Tray) (h : Distinct τ) (k : Kind) (p : List ℕ) where
  -- no pack has the address of an image that joins
  new_address : again_of τ p ≡ false → (j : ℕ) → j < τ.count → address_in τ j ≡ image_address p → ⊥
  unfolding search_of
  new_address new j low e = go (search_of τ.commons τ.count (image_address p)) refl new
    where
      go : (f : Option ℕ) → search_of τ.commons τ.count (image_address p) ≡ f → is_some f ≡ false → ⊥
      go (Some i) s z = contrary cc
      go None s z =
          let no = search_none no_gauge.common (image_address p) τ.commons 0 τ.count s j zero-le (omega arith) in
          let yes : same_bytes (address_in τ j) (image_address p) ≡ true = ap (same_bytes (address_in τ j)) (sym e) ∙ equal_same (address_in τ j) in
          contrary cc

  abbrev address_after : Event → ℕ → List ℕ
  address_after e i = (pack_after τ p e i).common.address

  abbrev Own : Event → Type 0
  Own e = (i j : ℕ) → i < count_after τ e → j < count_after τ e → address_after e i ≡ address_after e j → i ≡ j

  same_own : (e : Event) → count_after τ e ≡ τ.count → ((f : Profile) → e ≡ Image f → ⊥) → Own e
  same_own e count none i j low high z =
      let same : (n : ℕ) → address_after e n ≡ address_in τ n = λ n. address_after_lem τ p e n (λ f is at. none f is) in
      h.own i j (rw count at low) (rw count at high) (sym (same i) ∙ z ∙ same j)

  joined_own : (f : Profile) → again_of τ p ≡ false → Own (Image f)
  unfolding image_of
  joined_own f new i j low high = go (eqb i τ.count) (eqb j τ.count) refl refl
    where
      go : (s t : Bool) → eqb i τ.count ≡ s → eqb j τ.count ≡ t
          → (pick s (image_of f p) (pack_of τ i)).common.address ≡ (pick t (image_of f p) (pack_of τ j)).common.address → i ≡ j
      go true true a b z = eqb-true i τ.count a ∙ sym (eqb-true j τ.count b)
      go true false a b z = absurd (new_address new j (omega (arith, eqb-false j τ.count b)) (sym z))
      go false true a b z = absurd (new_address new i (omega (arith, eqb-false i τ.count a)) z)
      go false false a b z = h.own i j (omega (arith, eqb-false i τ.count a)) (omega (arith, eqb-false j τ.count b)) z

  event_own : (e : Event) → Asks τ k p (Ok e) → Own e
  event_own (Image f) a = joined_own f a.new
  event_own (Change c) a = same_own (Change c) refl (λ f z. contrary cc)
  event_own (Transact t) a = same_own (Transact t) refl (λ f z. contrary cc)

  event_distinct : (e : Event) → Asks τ k p (Ok e) → Distinct (tray_event τ p e).state
  event_distinct e a = record {
    eight = event_eight τ h.eight k p e a;
    own = λ i j low high z.
        let pack : (n : ℕ) → address_in (tray_event τ p e).state n ≡ address_after e n =
        λ n. ap (λ (g : Gauge). g.common.address) (event_pack τ h.eight k p e a n) in
        let count = event_count τ h.eight k p e in
        event_own e a i j (rw count at low) (rw count at high) (sym (pack i) ∙ z ∙ pack j);
  }

pub end_distinct : (room : ℕ) (rs : List Rec) → Distinct (end_after tray_did empty_tray room rs)
end_distinct room rs =
    end_keeps Distinct (λ τ k p e h a. event_distinct τ h k p e a) empty_tray room rs
    (record { eight = empty_filled.eight; own = λ i j low high z. absurd (omega arith) })

-- Whom a transaction reaches: one pack, and then no other is selected; every pack; or nobody

module _ (t : Transaction) (master : List ℕ) (τ : Tray) where
  abbrev pub selects : ℕ → Bool
  selects i = selected_of (address_in τ i) t master

  -- a pack that is not selected says nothing: it is no net address read
  abbrev pub Quiet : Type 0
  Quiet = (rnaop : Bool) → net_source_of t.rom rnaop ≡ Idle

  pub data Whom : Reach → Type 0 where
    alone : (j : ℕ) → j < τ.count → Quiet → ((i : ℕ) → i < τ.count → (i ≡ j → ⊥) → selects i ≡ false) → Whom (one j)
    all : Whom every
    none : Quiet → ((i : ℕ) → i < τ.count → selects i ≡ false) → Whom nobody

  match_quiet : t.rom ≡ rom.Match → Quiet
  match_quiet m rnaop = rw m refl

  match_selects : t.rom ≡ rom.Match → ltb (length master) 9 ≡ false → (i : ℕ) → selects i ≡ same_bytes (address_in τ i) (take 8 (drop 1 master))
  unfolding selected_of own_of
  match_selects m long i = rw (m, long) refl

  others : Distinct τ → t.rom ≡ rom.Match → (j : ℕ) → matched_of τ.commons τ.count master ≡ Some j
      → (j < τ.count) × ((i : ℕ) → i < τ.count → (i ≡ j → ⊥) → selects i ≡ false)
  others h m j e =
      let found = matched_found τ.commons τ.count master j e in
      let low : j < τ.count = omega (arith, found.1.low) in (
        low,
        λ i here other. match_selects m found.0 i
            ∙ go i here other low found.1.has (same_bytes (address_in τ i) (take 8 (drop 1 master))) refl,
      )
    where
      go : (i : ℕ) → i < τ.count → (i ≡ j → ⊥) → j < τ.count → same_bytes (address_in τ j) (take 8 (drop 1 master)) ≡ true
          → (s : Bool) → same_bytes (address_in τ i) (take 8 (drop 1 master)) ≡ s → s ≡ false
      go i here other low has true e = absurd (other (h.own i j here low (same_equal _ _ e ∙ sym (same_equal _ _ has))))
      go i here other low has false e = refl

  unmatched : t.rom ≡ rom.Match → matched_of τ.commons τ.count master ≡ None → (i : ℕ) → i < τ.count → selects i ≡ false
  unfolding matched_of search_of selected_of own_of
  unmatched m e i low = go (ltb (length master) 9) refl e
    where
      go : (s : Bool) → ltb (length master) 9 ≡ s → pick s None (search_of τ.commons τ.count (take 8 (drop 1 master))) ≡ None → selects i ≡ false
      go true short z = rw (m, short) refl
      go false long z =
          match_selects m long i
          ∙ search_none no_gauge.common (take 8 (drop 1 master)) τ.commons 0 τ.count z i zero-le (omega arith)

  pub whom : Distinct τ → Whom (tray_reach τ t master)
  unfolding selected_of
  whom h = by t.rom refl
    where
      found : t.rom ≡ rom.Match → (f : Option ℕ) → matched_of τ.commons τ.count master ≡ f → Whom (reach_found f)
      found m (Some j) e = let o = others h m j e in alone j o.0 (match_quiet m) o.1
      found m None e = none (match_quiet m) (unmatched m e)

      by : (r : Rom) → t.rom ≡ r → Whom (reach_by r (matched_of τ.commons τ.count master))
      by rom.Skip e = all
      by rom.Match e = found e (matched_of τ.commons τ.count master) refl
      by rom.Net33 e = all
      by rom.Net39 e = all
      by rom.Quiet e = none (λ rnaop. rw e refl) (λ i low. rw e refl)
