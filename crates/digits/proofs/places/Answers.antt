-- `digits::places` meets its contract.
use Rattle.std.proofs.Common.{◌≡◌, ◌++◌, take, drop, refl}
use Rattle.digits.specs.Digits.{places_of}
use Rattle.digits.proofs.places.Reads as reads
use Rattle.digits.proofs.places.Lts as lts
use Rattle.digits.proofs.places.Goals as goal

-- a smaller promise: the first three digits
front : lts.Need-returns reads.Pre (λ κs a r s. take 3 r ≡ take 3 (places_of a.0))
front c = refl

-- and another: the last two
back : lts.Need-returns reads.Pre (λ κs a r s. drop 3 r ≡ drop 3 (places_of a.0))
back c = refl

pub returns : goal.returns
returns c =
    λ i. front (record { args = record { n = c.args.n }; well_formed = c.well_formed; ranges = record { n = c.ranges.n }; requires = c.requires }) i
    ++ back (record { args = record { n = c.args.n }; well_formed = c.well_formed; ranges = record { n = c.ranges.n }; requires = c.requires }) i
