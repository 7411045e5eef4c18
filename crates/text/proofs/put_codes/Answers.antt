use mathlib.Core.Path.{◌≡◌, ap, ◌∙◌}
use mathlib.Core.List.{List}
use Prim.Native.Nat.{ℕ, ◌+◌, ◌-◌, ◌≤◌, ◌<◌}
use native.Mathlib.Nat.{add_assoc}
use native.Mathlib.Omega.{arith}
use lib.ListN.{length, length-take}
use Rattle.slices.specs.Slices.{part}
use Rattle.digits.specs.declared.Twos.{Twos}
use Rattle.digits.specs.Digits.{packed_of, width_of}
use Rattle.text.specs.Text.{last_width}
use Rattle.text.proofs.Going.{roomy, more, more_bare, more_done, ended, digits_few}
use Rattle.text.proofs.put_codes.Goals as goal
use Rattle.text.proofs.put_codes.Goals.{then-code-lt655360+then-code-lt256, then-code-lt655360+else-code-lt256, else-code-lt655360}

-- the line's number has as many digits as the longest at most
few : (first : ℕ) (codes : List ℕ) (i : ℕ) → i < length codes → width_of (first + i) + 12 ≤ last_width first (length codes) + 12
few first codes i h = omega (arith, digits_few first (length codes) i h)

-- the next number
later : (first i : ℕ) {four : Twos} → four ≡ packed_of (first + i + 1) → four ≡ packed_of (first + (i + 1))
later first i e = e ∙ ap packed_of (add_assoc first i 1)

pub put_counted-requires-clause-n_in_bounds : goal.put_counted-requires-clause-n_in_bounds
put_counted-requires-clause-n_in_bounds c = omega (
  arith,
  roomy c.loop-i.invariant.0 c.requires.replies_in_bounds c.loop-i-test.true,
  few c.args.first c.args.codes.now c.loop-i.i c.loop-i-test.true,
)

pub put_done-requires-clause-used_in_bounds : goal.put_done-requires-clause-used_in_bounds
put_done-requires-clause-used_in_bounds c =
    let room = roomy c.loop-i.invariant.0 c.requires.replies_in_bounds c.loop-i-test.true in
    let put = c.put_counted.ensures in
    omega (arith, few c.args.first c.args.codes.now c.loop-i.i c.loop-i-test.true, put.size, put.writing.within)

pub put_bare_end-requires : goal.put_bare_end-requires
put_bare_end-requires c =
    let room = roomy c.loop-i.invariant.0 c.requires.replies_in_bounds c.loop-i-test.true in
    let put = c.put_counted.ensures in
    let fields = c.put_done.ensures in
    omega (arith, few c.args.first c.args.codes.now c.loop-i.i c.loop-i-test.true, put.size, put.writing.within, fields.size, fields.writing.within)

pub put_fields-requires-clause-used_in_bounds : goal.put_fields-requires-clause-used_in_bounds
put_fields-requires-clause-used_in_bounds c =
    let room = roomy c.loop-i.invariant.0 c.requires.replies_in_bounds c.loop-i-test.true in
    let put = c.put_counted.ensures in
    omega (arith, few c.args.first c.args.codes.now c.loop-i.i c.loop-i-test.true, put.size, put.writing.within)

pub put_bare_end-requires-else-code-lt256 : goal.put_bare_end-requires-else-code-lt256
put_bare_end-requires-else-code-lt256 c =
    let room = roomy c.loop-i.invariant.0 c.requires.replies_in_bounds c.loop-i-test.true in
    let put = c.put_counted.ensures in
    let fields = c.put_fields.ensures in
    omega (arith, few c.args.first c.args.codes.now c.loop-i.i c.loop-i-test.true, put.size, put.writing.within, fields.size, fields.writing.within)

pub put_fields-requires-else-code-lt655360-clause-used_in_bounds : goal.put_fields-requires-else-code-lt655360-clause-used_in_bounds
put_fields-requires-else-code-lt655360-clause-used_in_bounds c =
    let room = roomy c.loop-i.invariant.0 c.requires.replies_in_bounds c.loop-i-test.true in
    let put = c.put_counted.ensures in
    omega (arith, few c.args.first c.args.codes.now c.loop-i.i c.loop-i-test.true, put.size, put.writing.within)

pub put_end-requires-clause-reply_in_bounds : goal.put_end-requires-clause-reply_in_bounds
put_end-requires-clause-reply_in_bounds c =
    let room = roomy c.loop-i.invariant.0 c.requires.replies_in_bounds c.loop-i-test.true in
    let put = c.put_counted.ensures in
    let fields = c.put_fields-else-code-lt655360.ensures in
    let shorter = length-take c.min-count.result (part (length c.args.replies.now - c.loop-i.used) c.args.replies.now c.loop-i.used) in
    omega (arith, few c.args.first c.args.codes.now c.loop-i.i c.loop-i-test.true, put.size, put.writing.within, fields.size, fields.writing.within)

pub loop-i-preserved : goal.loop-i-preserved
loop-i-preserved c =
    let going = c.loop-i.invariant.0 in
    let inside = c.loop-i-test.true in
    let short = few c.args.first c.args.codes.now c.loop-i.i inside in
    let number = c.put_counted.ensures in (
      elim c.if-code-lt655360.branch [
        | then-code-lt655360+then-code-lt256 w ↦
            rw (w.page-is, w.used-is)
            (more_done going inside short w.if-code-lt256.true number w.put_done.ensures w.put_bare_end.ensures)
        | then-code-lt655360+else-code-lt256 w ↦
            rw (w.page-is, w.used-is)
            (more_bare going inside short (omega (arith, w.if-code-lt655360.true)) number w.put_fields.ensures
            w.put_bare_end-else-code-lt256.ensures)
        | else-code-lt655360 w ↦
            rw (w.page-is, w.used-is)
            (more going inside short w.min-count.ensures number w.put_fields-else-code-lt655360.ensures w.put_end.ensures)
      ],
      later c.args.first c.loop-i.i c.counted_up-four.ensures,
    )

pub returns : goal.returns
returns c = ended c.loop-i.invariant.0 c.loop-i-test.false
