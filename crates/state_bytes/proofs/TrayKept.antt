-- What events keep of a gauge, a record of a tray keeps of each place.
use mathlib.Core.Path.{◌≡◌}
use mathlib.Core.Bool.{false}
use mathlib.Core.List.{List}
use Prim.Native.Nat.{ℕ, zero, suc}
use lib.Dec.{ltb}
use lib.ListN.{length}
use Rattle.std.specs.Prelude.{Ok, Err}
use Rattle.numbers.proofs.Bounds.{picked}
use Rattle.bus.specs.declared.Transaction.{Transaction}
use Rattle.state.specs.declared.Common.{Common}
use Rattle.state.specs.declared.Meter.{Meter}
use Rattle.state.specs.declared.Profile.{Profile}
use Rattle.state.specs.State.{counts_cycles, image_size_of, LabelSized}
use Rattle.block1.specs.Block1.{BlockSized}
use Rattle.record.specs.declared.Event.{Event}
use Rattle.record.specs.declared.Event.TheVariants.{Image, Change, Transact}
use Rattle.record.specs.Record.{master_of, asks_of, fitted_of, Taken}
use Rattle.gauge.specs.declared.Gauge.{Gauge}
use Rattle.gauge.specs.Gauge.{Sized, NoCycles, Uncounted}
use Rattle.gauge.specs.Act.{act_of}
use Rattle.gauge.specs.Change.{changed_of}
use Rattle.gauge.specs.Image.{image_of}
use Rattle.gauge.specs.Kept.{Kept}
use Rattle.gauge.proofs.Kept.{sized_kept, uncounted_kept}
use Rattle.gauge.proofs.Reached.{image_sized, image_uncounted}
use Rattle.runs.specs.Record.{Rec, whole, cut}
use Rattle.runs.specs.AnyRecord.{answered_by}
use Rattle.tray_record.specs.declared.Tray.{Tray}
use Rattle.tray_record.specs.Tray.{no_gauge, pack_of, stored_of, slot_in, again_of, acted_first, Reach, one, every, nobody, tray_reach, tray_acted, tray_told}
use Rattle.tray_record.specs.Tray.{tray_event, of_tray, tray_did}
use Rattle.tray_record.proofs.Laws.{set_each}
use Rattle.tray_record.proofs.Taking.{TrayTaking, tray_taking}

-- what holds of each place
abbrev Placed : (Gauge → Type 0) → Tray → Type 0
Placed P τ = (i : ℕ) → P (pack_of τ i)

module _ (P : Gauge → Type 0) (k : Kept P) (image : (f : Profile) (p : List ℕ) → length p ≡ image_size_of f → P (image_of f p))
    (stored : (τ : Tray) (i : ℕ) (g : Gauge) → Placed P τ → P g → Placed P (stored_of τ i g)) where
  module _ (t : Transaction) (master : List ℕ) (τ : Tray) (h : Placed P τ) where
    first_keeps : (n : ℕ) → Placed P (acted_first t master τ n)
    first_keeps zero = h
    first_keeps (suc n) = stored (acted_first t master τ n) n (act_of (pack_of τ n) t master) (first_keeps n) (k.act (pack_of τ n) t master (h n))

    acted_keeps : (reach : Reach) → Placed P (tray_acted t master reach τ)
    acted_keeps (one i) = stored τ i (act_of (pack_of τ i) t master) h (k.act (pack_of τ i) t master (h i))
    acted_keeps every = first_keeps τ.count
    acted_keeps nobody = h

  tray_keeps : (τ : Tray) (room : ℕ) (r : Rec) → Placed P τ → Placed P (tray_did τ room r).state
  unfolding tray_did
  tray_keeps τ room cut h = h
  tray_keeps τ room (whole kind p) h = fitted (tray_told τ kind p) (tray_taking τ kind p)
    where
      event : (e : Event) → TrayTaking τ.count τ.closed p (again_of τ p) (Ok e) → Placed P (tray_event τ p e).state
      event (Image f) t = stored τ τ.count (image_of f p) h (image f p t.2)
      event (Change c) t =
          let i = slot_in p in
          stored τ i (changed_of (pack_of τ i) c) h (k.change (pack_of τ i) c (h i))
      event (Transact x) t = acted_keeps x (master_of x p) τ h (tray_reach τ x (master_of x p))

      fitted : (t : Taken) → TrayTaking τ.count τ.closed p (again_of τ p) t → Placed P (answered_by of_tray τ p (fitted_of room t)).state
      fitted (Ok e) taking =
          picked (λ (x : Taken). Placed P (answered_by of_tray τ p x).state) (ltb room (asks_of e)) _ _ (λ full. h) (λ fits. event e taking)
      fitted (Err r) taking = h

-- ---- the sizes of its arrays, and that a DS2781 counts no cycles

pub stored_sized : (τ : Tray) (i : ℕ) (g : Gauge) → Placed Sized τ → Sized g → Placed Sized (stored_of τ i g)
stored_sized τ i g h s j = record {
  address = set_each (λ (c : Common). length c.address ≡ 8) no_gauge.common τ.commons i g.common s.address (λ n. (h n).address) j;
  label = set_each LabelSized no_gauge.label τ.labels i g.label s.label (λ n. (h n).label) j;
  block = set_each (λ (m : Meter). BlockSized m.cells.block) no_gauge.meter τ.meters i g.meter s.block (λ n. (h n).block) j;
}

abbrev None : Meter → Type 0
None m = counts_cycles m.cells.profile ≡ false → NoCycles m

stored_uncounted : (τ : Tray) (i : ℕ) (g : Gauge) → Placed Uncounted τ → Uncounted g → Placed Uncounted (stored_of τ i g)
stored_uncounted τ i g h u j = set_each None no_gauge.meter τ.meters i g.meter u h j

module _ (τ : Tray) (room : ℕ) (r : Rec) where
  pub tray_sized : Placed Sized τ → Placed Sized (tray_did τ room r).state
  tray_sized = tray_keeps Sized sized_kept image_sized stored_sized τ room r

  pub tray_uncounted : Placed Uncounted τ → Placed Uncounted (tray_did τ room r).state
  tray_uncounted = tray_keeps Uncounted uncounted_kept (λ f p e. image_uncounted f p) stored_uncounted τ room r
