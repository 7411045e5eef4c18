-- The gauges that events reach from an accepted image: what is kept holds of them all, and so their image, taken out and read in again, is
-- refused for nothing but crossed breakpoints, and is a power-on.
use mathlib.Core.Path.{◌≡◌, refl}
use mathlib.Core.Bool.{Bool, true, false}
use mathlib.Core.List.{List}
use Prim.Native.Nat.{ℕ, ◌+◌, ◌≤◌}
use native.Mathlib.Omega.{arith}
use lib.Dec.{eqb}
use lib.ListN.{length}
use borrow.Author.Tests.{eqb-true}
use Rattle.std.specs.Prelude.{Ok, Err}
use Rattle.numbers.specs.Choice.{pick}
use Rattle.slices.specs.Slices.{part}
use Rattle.slices.proofs.Laws.{part_length}
use Rattle.params.specs.Params.{breaks_of}
use Rattle.state.specs.declared.Profile.{Profile}
use Rattle.state.specs.State.{image_size_of, powered_of}
use Rattle.state.proofs.ProfileLaws.{sixty}
use Rattle.gauge.specs.declared.Gauge.{Gauge}
use Rattle.gauge.specs.Gauge.{Sized, Uncounted, power_on_of}
use Rattle.gauge.specs.Kept.{Kept}
use Rattle.gauge.proofs.Kept.{address_kept, sized_kept, uncounted_kept}
use Rattle.record.specs.declared.Refusal.{Refusal}
use Rattle.record.specs.declared.Refusal.TheVariants.{Breaks}
use Rattle.record.specs.declared.Event.{Event}
use Rattle.record.specs.declared.Event.TheVariants.{Image}
use Rattle.record.specs.Image.{image_address}
use Rattle.record.specs.Record.{addressed_of, ordered_of, judged_among, judged_by, Taken}
use Rattle.gauge.specs.Image.{image_of, bytes_of}
use Rattle.gauge.specs.Reach.{Reached}
use Rattle.gauge.specs.Reach.Reached.{accepted, changed, acted_on}
use Rattle.gauge.proofs.Image.{round_trip, image_judged}

-- ---- an image that is accepted

-- it has passed each test
pass : (e : Event) (x : Bool) (t : Taken) (r : Refusal) → pick x t (Err r) ≡ Ok e → (x ≡ true) × (t ≡ Ok e)
pass e true t r h = (refl, h)
pass e false t r h = (cc, cc)

module _ (f : Profile) (p : List ℕ) (e : judged_by f p ≡ Ok (Image f)) where
  passed : (eqb (length p) (image_size_of f) ≡ true) × (addressed_of f (image_address p) ≡ true)
  unfolding judged_among
  passed =
      let size = pass (Image f) (eqb (length p) (image_size_of f)) _ _ e in
      (size.0, (pass (Image f) (addressed_of f (image_address p)) _ _ size.1).0)

  pub accepted_length : length p ≡ image_size_of f
  accepted_length = eqb-true (length p) (image_size_of f) passed.0

  pub accepted_address : addressed_of (image_of f p).meter.cells.profile (image_of f p).common.address ≡ true
  unfolding image_of powered_of
  accepted_address = passed.1

pub image_sized : (f : Profile) (p : List ℕ) → length p ≡ image_size_of f → Sized (image_of f p)
unfolding image_of powered_of
image_sized f p e =
    let long : 60 ≤ length p = omega (arith, sixty f) in
    let size : (n at : ℕ) → at + n ≤ 60 → length (part n p at) ≡ n = λ n at h. part_length n p at (omega arith) in
    record {
      address = size 8 0 (omega arith);
      label = record { shadow = size 16 8 (omega arith); eeprom = size 16 8 (omega arith) };
      block = record { shadow = size 32 24 (omega arith); eeprom = size 32 24 (omega arith) };
    }

-- an image of kind 1 has no saved cycle counter
pub image_uncounted : (f : Profile) (p : List ℕ) → Uncounted (image_of f p)
unfolding image_of powered_of
image_uncounted f p e = record { count = rw e refl; rest = refl; saved = rw e refl }

-- ---- every gauge that is reached

-- what holds of every image accepted, and is kept, holds of them all
pub reached_keeps : (P : Gauge → Type 0) → Kept P → ((f : Profile) (p : List ℕ) → judged_by f p ≡ Ok (Image f) → P (image_of f p))
    → (g : Gauge) → Reached g → P g
reached_keeps P k start g (accepted f p e) = start f p e
reached_keeps P k start g (changed h c r) = k.change h c (reached_keeps P k start h r)
reached_keeps P k start g (acted_on h t master r) = k.act h t master (reached_keeps P k start h r)

module _ (g : Gauge) (r : Reached g) where
  pub reached_sized : Sized g
  reached_sized = reached_keeps Sized sized_kept (λ f p e. image_sized f p (accepted_length f p e)) g r

  pub reached_address : addressed_of g.meter.cells.profile g.common.address ≡ true
  reached_address = reached_keeps _ (address_kept (λ f a. addressed_of f a ≡ true)) accepted_address g r

  pub reached_uncounted : Uncounted g
  reached_uncounted = reached_keeps Uncounted uncounted_kept (λ f p e. image_uncounted f p) g r

  -- the image that is taken out is refused with 10 or accepted, by the breakpoints in the EEPROM, and is a power-on
  pub out_judged :
      let f = g.meter.cells.profile in
      judged_by f (bytes_of g) ≡ pick (ordered_of (breaks_of g.meter.cells.block.eeprom)) (Ok (Image f)) (Err Breaks)
  out_judged = image_judged g reached_sized reached_address

  pub out_in : image_of g.meter.cells.profile (bytes_of g) ≡ power_on_of g
  out_in = round_trip g reached_sized reached_uncounted
