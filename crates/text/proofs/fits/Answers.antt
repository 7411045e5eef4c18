-- `text::fits` meets its contract.
use native.Mathlib.Omega.{arith}
use borrow.Author.Tests.{le-leb, lt-leb}
use Prim.Native.Nat.{◌+◌, ◌*◌, ◌<◌}
use Rattle.text.specs.Text.{most_of, fits_of}
use Rattle.text.proofs.Laws.{half_test}
use Rattle.text.proofs.fits.Goals as goal

pub returns-then-lines-gt99999 : goal.returns-then-lines-gt99999
unfolding fits_of
returns-then-lines-gt99999 c = simp (lt-leb _ _ c.if-lines-gt99999.true)

pub returns-then-room-least : goal.returns-then-room-least
unfolding fits_of
returns-then-room-least c = let h : c.args.room < most_of c.args.lines c.args.replied = omega arith in
    simp (le-leb _ _ c.if-lines-gt99999.false, lt-leb _ _ h)

pub returns : goal.returns
unfolding fits_of
returns c = simp (le-leb _ _ c.if-lines-gt99999.false, half_test (36 + 17 * c.args.lines) c.args.replied c.args.room c.if-room-least.false)
