-- Whom a transaction of a tray selects: all packs that hear it, or none of them.
use mathlib.Core.Path.{◌≡◌, refl, sym, ap, ◌∙◌}
use mathlib.Core.Bool.{Bool, true, false}
use mathlib.Core.List.{List, [], ◌∷◌}
use Prim.Native.Nat.{ℕ, zero, suc, ◌<◌, zero-le}
use native.Mathlib.Omega.{arith}
use borrow.Author.Tests.{ltb-true, eqb-true}
use lib.Dec.{ltb}
use lib.ListN.{length, get_or, take, drop}
use Rattle.numbers.specs.Choice.{pick}
use Rattle.bus.specs.declared.Rom.{Rom}
use Rattle.bus.specs.declared.Rom.TheVariants as rom
use Rattle.bus.specs.declared.Transaction.{Transaction}
use Rattle.bus.specs.Ask.{same_bytes, own_of}
use Rattle.replies.specs.Reply.{selected_by, selected_of}
use Rattle.tray_record.specs.declared.Tray.{Tray}
use Rattle.std.specs.Prelude.{Option, Some, None}
use Rattle.tray_record.specs.Tray.{no_gauge, pack_of, search_of, reach_found, matched_of, nobody, reach_by, tray_reach}
use Rattle.demands.specs.Class.{some_selected}
use Rattle.demands.specs.History.{hears_of}
use Rattle.demands.proofs.Choice.{contrary, either_true}
use Rattle.demands.proofs.Packs.{search_none}
use Rattle.demands.proofs.Asked.{matched_found}
use Rattle.demands.proofs.Shut.{Owns}

-- Whom a transaction selects among the packs that hear it: all, or none

module _ (t : Transaction) (master : List ℕ) where
  some_true : (addresses : List (List ℕ)) (j : ℕ) → j < length addresses → selected_of (get_or addresses j []) t master ≡ true →
      some_selected addresses t master ≡ true
  some_true [] j low e = absurd (omega arith)
  some_true (a ∷ rest) zero low e = rw e refl
  some_true (a ∷ rest) (suc j) low e = rw (some_true rest j (omega arith) e) (either_true (selected_of a t master))

  some_false : (addresses : List (List ℕ)) → ((j : ℕ) → j < length addresses → selected_of (get_or addresses j []) t master ≡ false)
      → some_selected addresses t master ≡ false
  some_false [] h = refl
  some_false (a ∷ rest) h = rw (h 0 (omega arith)) (some_false rest (λ j low. h (suc j) (omega arith)))

  -- CCh selects whatever the address is, and net address reads and other bytes select nobody
  skip : t.rom ≡ rom.Skip → (a : List ℕ) → selected_of a t master ≡ true
  unfolding selected_of
  skip e a = rw e refl

  none_of : {r : Rom} → t.rom ≡ r → ((a : List ℕ) → selected_by r a master ≡ false) → (a : List ℕ) → selected_of a t master ≡ false
  unfolding selected_of
  none_of e never a = rw e (never a)

module _ (addresses : List (List ℕ)) (τ : Tray) (h : Owns addresses τ) (t : Transaction) (master : List ℕ) where
  abbrev chosen : ℕ → Bool
  chosen j = selected_of (pack_of τ j).common.address t master

  one_chosen : (j : ℕ) → j < τ.count → chosen j ≡ true → some_selected addresses t master ≡ true
  one_chosen j low e =
      some_true t master addresses j (omega (arith, h.count)) (ap (λ (a : List ℕ). selected_of a t master) (sym (h.owned j low)) ∙ e)

  none_chosen : ((j : ℕ) → j < τ.count → chosen j ≡ false) → some_selected addresses t master ≡ false
  none_chosen e =
      some_false t master addresses
      (λ j low. let here : j < τ.count = omega (arith, h.count) in ap (λ (a : List ℕ). selected_of a t master) (sym (h.owned j here)) ∙ e j here)

  module _ (r : t.rom ≡ rom.Match) where
    -- a match selects the packs with its address
    match_chosen : (s : Bool) → ltb (length master) 9 ≡ s → (j : ℕ) →
        chosen j ≡ pick s false (same_bytes (pack_of τ j).common.address (take 8 (drop 1 master)))
    unfolding selected_of own_of
    match_chosen s e j = rw (r, e) refl

    none_matched : matched_of τ.commons τ.count master ≡ None → (j : ℕ) → j < τ.count → chosen j ≡ false
    unfolding matched_of search_of
    none_matched e j low = go (ltb (length master) 9) refl e
      where
        go : (s : Bool) → ltb (length master) 9 ≡ s → pick s None (search_of τ.commons τ.count (take 8 (drop 1 master))) ≡ None →
            chosen j ≡ false
        go true f g = match_chosen true f j
        go false f g =
            match_chosen false f j ∙ search_none no_gauge.common (take 8 (drop 1 master)) τ.commons 0 τ.count g j zero-le (omega arith)

    matched_chosen : (found : Option ℕ) → matched_of τ.commons τ.count master ≡ found → (j : ℕ) →
        hears_of (reach_found found) τ.count j ≡ true
        → chosen j ≡ some_selected addresses t master
    matched_chosen (Some i) e j hear =
        let m = matched_found τ.commons τ.count master i e in
        let yes : chosen i ≡ true = match_chosen false m.0 i ∙ m.1.has in
        let low : i < τ.count = omega (arith, m.1.low) in
        ap chosen (eqb-true j i hear) ∙ yes ∙ sym (one_chosen i low yes)
    matched_chosen None e j hear = contrary cc

  -- where it reaches nobody, no pack is selected
  pub nobody_chosen : tray_reach τ t master ≡ nobody → (j : ℕ) → j < τ.count → chosen j ≡ false
  nobody_chosen = by t.rom refl
    where
      unfound : t.rom ≡ rom.Match → (found : Option ℕ) → matched_of τ.commons τ.count master ≡ found → reach_found found ≡ nobody
          → (j : ℕ) → j < τ.count → chosen j ≡ false
      unfound r (Some i) e n j low = contrary cc
      unfound r None e n j low = none_matched r e j low

      by : (r : Rom) → t.rom ≡ r → reach_by r (matched_of τ.commons τ.count master) ≡ nobody → (j : ℕ) → j < τ.count → chosen j ≡ false
      by rom.Skip e n j low = contrary cc
      by rom.Match e n j low = unfound e (matched_of τ.commons τ.count master) refl n j low
      by rom.Net33 e n j low = contrary cc
      by rom.Net39 e n j low = contrary cc
      by rom.Quiet e n j low = none_of t master e (λ a. refl) (pack_of τ j).common.address

  pub hears_chosen : (j : ℕ) → hears_of (tray_reach τ t master) τ.count j ≡ true → chosen j ≡ some_selected addresses t master
  hears_chosen j = by t.rom refl
    where
      quiet : (r : Rom) → ((a : List ℕ) → selected_of a t master ≡ false) → chosen j ≡ some_selected addresses t master
      quiet r never = never (pack_of τ j).common.address ∙ sym (none_chosen (λ i low. never (pack_of τ i).common.address))

      by : (r : Rom) → t.rom ≡ r → hears_of (reach_by r (matched_of τ.commons τ.count master)) τ.count j ≡ true
          → chosen j ≡ some_selected addresses t master
      by rom.Skip e hear =
          let yes = skip t master e in
          yes (pack_of τ j).common.address ∙ sym (one_chosen j (ltb-true j τ.count hear) (yes (pack_of τ j).common.address))
      by rom.Match e hear = matched_chosen e (matched_of τ.commons τ.count master) refl j hear
      by rom.Net33 e hear = quiet rom.Net33 (none_of t master e (λ a. refl))
      by rom.Net39 e hear = quiet rom.Net39 (none_of t master e (λ a. refl))
      by rom.Quiet e hear = quiet rom.Quiet (none_of t master e (λ a. refl))
