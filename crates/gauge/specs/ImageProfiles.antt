-- What images of both profiles share: the length, the family code and the cell of the cycle counter tell them apart. Where the gauges differ
-- says `OnlyTwo` of `gauge`.
use Rattle.std.specs.Prelude.{◌≡◌, Bool, false, List, ◌++◌, ℕ, eqb, length}
use Rattle.state.specs.declared.Profile.{Profile}
use Rattle.state.specs.declared.Profile.TheVariants.{Ds2781}
use Rattle.state.specs.State.{image_size_of, counts_cycles}
use Rattle.record.specs.Image.{image_size, image_address, image_locks, image_breaks}
use Rattle.record.specs.Record.{taken_number, addressed_of, judged_among}
use Rattle.gauge.specs.declared.Gauge.{Gauge}
use Rattle.gauge.specs.Profiles.{base_of}
use Rattle.gauge.specs.Image.{image_of, cycle_cell, bytes_of}
use Rattle.gauge.specs.Reach.{Reached}

-- the tests of an image that its profile has a part in have the same outcome
pub record AsGood (f h : Profile) (p q : List ℕ) : Type 0 where
  pub size : eqb (length p) (image_size_of f) ≡ eqb (length q) (image_size_of h)
  pub address : addressed_of f (image_address p) ≡ addressed_of h (image_address q)

pub record ImagesShare : Type 0 where
  -- by the other tests two images with the same lock byte and breakpoints get one answer
  pub judged : (f h : Profile) (again : Bool) (p q : List ℕ) → AsGood f h p q → image_locks p ≡ image_locks q → image_breaks p ≡ image_breaks q
      → taken_number (judged_among f again p) ≡ taken_number (judged_among h again q)
  -- the 60 bytes of kind 1, whatever stands behind them, power on to the same base
  pub ins : (f : Profile) (p cell : List ℕ) → length p ≡ image_size → base_of (image_of f (p ++ cell)) ≡ image_of Ds2781 p
  -- and are taken out of a gauge as of its base, with the cell behind them
  pub outs : (g : Gauge) → bytes_of g ≡ bytes_of (base_of g) ++ cycle_cell g.meter.cells.profile g.meter.cells.saved.cycles
  -- a pack without a counter is its own base, whatever events it sees
  pub own : (g : Gauge) → Reached g → counts_cycles g.meter.cells.profile ≡ false → base_of g ≡ g
