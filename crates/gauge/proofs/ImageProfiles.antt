-- What images of both profiles share, proved.
use mathlib.Core.Path.{◌≡◌, refl, sym, ap, ◌∙◌}
use mathlib.Core.Bool.{Bool, false}
use mathlib.Core.List.{List, ◌++◌, append_assoc, append-nil}
use Prim.Native.Nat.{ℕ, ◌+◌, ◌≤◌}
use native.Mathlib.Omega.{arith}
use lib.ListN.{length, get_or, take, drop, length-drop, get_or-append}
use lib.Seq.{take-append-le, drop-append-le}
use Rattle.slices.specs.Slices.{part}
use Rattle.numbers.proofs.Bounds.{through}
use Rattle.state.specs.declared.Profile.{Profile}
use Rattle.state.specs.declared.Profile.TheVariants.{Ds2781, Ds2775}
use Rattle.state.specs.State.{counts_cycles, powered_of}
use Rattle.state.specs.declared.Meter.{Meter}
use Rattle.record.specs.Image.{image_size, image_locks, image_breaks}
use Rattle.record.specs.Record.{taken_number, judged_among}
use Rattle.gauge.specs.Gauge.{NoCycles}
use Rattle.gauge.specs.Profiles.{base_meter, base_of}
use Rattle.gauge.specs.Image.{image_of, bytes_of}
use Rattle.gauge.specs.ImageProfiles.{AsGood, ImagesShare}
use Rattle.gauge.proofs.Reached.{reached_uncounted}

-- ---- judged

judged_alike : (f h : Profile) (again : Bool) (p q : List ℕ) → AsGood f h p q → image_locks p ≡ image_locks q → image_breaks p ≡ image_breaks q
    → taken_number (judged_among f again p) ≡ taken_number (judged_among h again q)
unfolding judged_among
judged_alike f h again p q good locks breaks = rw (good.size, good.address, locks, breaks) (simp (through taken_number))

-- ---- in

module _ (p cell : List ℕ) (size : length p ≡ image_size) where
  part_front : (n at : ℕ) → at + n ≤ image_size → part n (p ++ cell) at ≡ part n p at
  part_front n at h =
      let room : n ≤ length (drop at p) = omega (arith, length-drop at p) in
      ap (take n) (drop-append-le at p cell (omega arith)) ∙ take-append-le n (drop at p) cell room

  byte_front : (at : ℕ) → at + 1 ≤ image_size → get_or (p ++ cell) at 0 ≡ get_or p at 0
  byte_front at h = get_or-append p cell 0 at (omega arith)

  image_base : (f : Profile) → base_of (image_of f (p ++ cell)) ≡ image_of Ds2781 p
  unfolding image_of powered_of
  image_base f =
      rw (
        part_front 8 0 (omega arith),
        part_front 16 8 (omega arith),
        part_front 32 24 (omega arith),
        byte_front 56 (omega arith),
        byte_front 57 (omega arith),
        byte_front 58 (omega arith),
        byte_front 59 (omega arith),
      ) refl

-- ---- a pack without a counter

meter_base : (m : Meter) (f : Profile) → m.cells.profile ≡ f → counts_cycles f ≡ false → NoCycles m → base_meter m ≡ m
meter_base m Ds2781 p e none = λ i. record {
  cells = record {
    profile = sym p i;
    block = m.cells.block;
    locks = m.cells.locks;
    saved = record { acr = m.cells.saved.acr; aging = m.cells.saved.aging; cycles = sym none.saved i };
  };
  charge = m.charge;
  cycles = record { count = sym none.count i; rest = sym none.rest i };
  flow = m.flow;
  shown = m.shown;
}
meter_base m Ds2775 p e none = cc

pub images_share : ImagesShare
unfolding bytes_of
images_share = record {
  judged = judged_alike;
  ins = λ f p cell size. image_base p cell size f;
  outs = λ g. simp (append_assoc, append-nil);
  own = λ g r e. ap (λ (m : Meter). record { common = g.common; label = g.label; meter = m }) (meter_base g.meter _ refl e (reached_uncounted g r e));
}
