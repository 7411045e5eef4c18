-- The three lines by the number of degrees in each segment and a product, as the code works them out. The definition is the walk of `model_lines`;
-- `product_lines` says that both come to the same. Degrees are kept as z + 2^7.
use Rattle.std.specs.Prelude.{ℕ, ◌+◌, ◌-◌, ◌*◌, min, max}
use Rattle.params.specs.declared.Breaks.{Breaks}
use Rattle.params.specs.declared.Slopes.{Slopes}
use Rattle.params.specs.declared.Curves.{Curves}
use Rattle.state.specs.declared.Model.{Model}
use Rattle.reading.specs.declared.Degrees.{Degrees}
use Rattle.reading.specs.Reading.{forty, full_line_of, empty_line_of}

-- how many of the degrees from t up to 39 are at least low and below high
abbrev pub between : ℕ → ℕ → ℕ → ℕ
between low high t = min high forty - max low t

-- of the degrees from t up to 39 segment 4 has those at least TBP34; 3 those below TBP34 and at least TBP23; 2 those below both and at least
-- TBP12; 1 the rest, which are below all three. The breakpoints stand in any order; from t = 40 on each segment has none
unfoldable pub segments_of : Breaks → ℕ → Degrees
segments_of breaks t = record {
  s4 = between breaks.b34 forty t;
  s3 = between breaks.b23 breaks.b34 t;
  s2 = between breaks.b12 (min breaks.b34 breaks.b23) t;
  s1 = between 0 (min (min breaks.b34 breaks.b23) breaks.b12) t;
}

-- each slope as often as its segment has degrees
abbrev pub weighed_of : Degrees → Slopes → ℕ
weighed_of degrees slopes = degrees.s4 * slopes.s4 + degrees.s3 * slopes.s3 + degrees.s2 * slopes.s2 + degrees.s1 * slopes.s1

-- the slopes going down from 40 to t, by product
abbrev pub slopes_by : Breaks → Slopes → ℕ → ℕ
slopes_by breaks slopes t = weighed_of (segments_of breaks t) slopes

unfoldable pub product_of : Curves → ℕ → Model
product_of curves t = record {
  full = full_line_of (slopes_by curves.breaks curves.full t);
  ae = empty_line_of curves.start (slopes_by curves.breaks curves.ae t);
  se = empty_line_of 0 (slopes_by curves.breaks curves.se t);
}
