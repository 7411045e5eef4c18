-- The slots that a transaction reaches, and that the packs there are selected, but by a net address read: no address need be compared again.
use mathlib.Core.Path.{◌≡◌, refl, subst, ◌∙◌}
use mathlib.Core.Bool.{true, false}
use mathlib.Core.List.{List}
use Prim.Native.Nat.{ℕ, zero, suc, ◌+◌, ◌≤◌, ◌<◌}
use native.Mathlib.Omega.{arith}
use lib.Dec.{ltb}
use lib.ListN.{length, take, drop}
use Rattle.numbers.proofs.Bounds.{picked}
use Rattle.bus.specs.declared.Rom.{Rom}
use Rattle.bus.specs.declared.Rom.TheVariants as rom
use Rattle.bus.specs.declared.Transaction.{Transaction}
use Rattle.bus.specs.Ask.{same_bytes, own_of}
use Rattle.replies.specs.Reply.{selected_of}
use Rattle.tray_record.specs.declared.Tray.{Tray}
use Rattle.tray_record.specs.declared.Span.{Span}
use Rattle.std.specs.Prelude.{Option, Some, None}
use Rattle.tray_record.specs.Tray.{no_gauge, pack_of, search_from, search_of, matched_of, reach_by, tray_reach, reach_span}
use Rattle.tray_record.specs.Tray.{selecting_of}
use Rattle.tray_record.proofs.Laws.{Below, matched_below}

-- ---- the pack that a Match finds

module _ (t : Transaction) (master : List ℕ) (τ : Tray) where
  abbrev pub Selected : Option ℕ → Type 0
  Selected (Some i) = selected_of (pack_of τ i).common.address t master ≡ true
  Selected None = Unit

  module _ (by-match : t.rom ≡ rom.Match) (long : ltb (length master) 9 ≡ false) where
    match_selects : (address : List ℕ) → selected_of address t master ≡ same_bytes address (take 8 (drop 1 master))
    unfolding selected_of own_of
    match_selects address = rw (by-match, long) refl

    search_selects : (i n : ℕ) → Selected (search_from τ.commons no_gauge.common (take 8 (drop 1 master)) i n)
    search_selects i zero = tt
    search_selects i (suc n) =
        picked Selected (same_bytes (pack_of τ i).common.address (take 8 (drop 1 master))) (Some i) _
        (λ hit. match_selects (pack_of τ i).common.address ∙ hit) (λ miss. search_selects (i + 1) n)

  pub matched_selects : t.rom ≡ rom.Match → Selected (matched_of τ.commons τ.count master)
  unfolding matched_of search_of
  matched_selects by-match =
      picked Selected (ltb (length master) 9) None _ (λ short. tt) (λ long. search_selects by-match long 0 τ.count)

-- ---- a pack that it reaches

module _ (t : Transaction) (master : List ℕ) (τ : Tray) where
  abbrev pub span_at : Span
  span_at = reach_span τ.count (tray_reach τ t master)

  pub span_inside : span_at.stop ≤ τ.count
  span_inside = by t.rom (matched_of τ.commons τ.count master) (matched_below τ.commons τ.count master)
    where
      by : (r : Rom) (f : Option ℕ) → Below τ.count f → (reach_span τ.count (reach_by r f)).stop ≤ τ.count
      by rom.Skip f h = omega arith
      by rom.Match (Some i) h = omega arith
      by rom.Match None h = omega arith
      by rom.Net33 f h = omega arith
      by rom.Net39 f h = omega arith
      by rom.Quiet f h = omega arith

  pub reach_selects : (i : ℕ) → span_at.first ≤ i → i < span_at.stop → selected_of (pack_of τ i).common.address t master ≡ selecting_of t.rom
  unfolding selected_of
  reach_selects i = by t.rom (matched_of τ.commons τ.count master) refl refl
    where
      by : (r : Rom) (f : Option ℕ) → t.rom ≡ r → matched_of τ.commons τ.count master ≡ f
          → (reach_span τ.count (reach_by r f)).first ≤ i → i < (reach_span τ.count (reach_by r f)).stop
          → selected_of (pack_of τ i).common.address t master ≡ selecting_of r
      by rom.Skip f e ef low high = rw e refl
      by rom.Match (Some j) e ef low high =
          let same : i ≡ j = omega arith in
          rw same (subst (Selected t master τ) ef (matched_selects t master τ e))
      by rom.Match None e ef low high = absurd (omega arith)
      by rom.Net33 f e ef low high = rw e refl
      by rom.Net39 f e ef low high = rw e refl
      by rom.Quiet f e ef low high = rw e refl
