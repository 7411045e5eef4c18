-- `live::answered` meets its contract.
use mathlib.Core.Path.{sym, ap, subst}
use Prim.Native.Nat.{ℕ, ◌*◌, ◌≤◌}
use native.Mathlib.Omega.{arith}
use lib.ListN.{length, take, length-take}
use lib.Seq.{length-take-le}
use Rattle.runs.specs.Record.{recs_of}
use Rattle.runs.specs.SessionRecord.{did_of}
use Rattle.runs.proofs.AnyRecord.{did_fits}
use Rattle.runs.proofs.OwnRoom.{did_own}
use borrow.Author.Rules.{rules}
use Rattle.digits.proofs.Laws.{fronted}
use Rattle.text.proofs.Going.{most_long}
use Rattle.text.proofs.Live.{span_short, span_few, lines_within, told_within, replied_within, after_within, turned}
use Rattle.live.proofs.answered.Goals as goal

pub slice_bounds-run_on-end : goal.slice_bounds-run_on-end
slice_bounds-run_on-end c = sym (length-take-le c.span-used.result c.args.bytes.now (span_short 1024 c.args.bytes.now c.span-used.ensures))

pub run_on-ran-requires-clause-bytes_in_bounds : goal.run_on-ran-requires-clause-bytes_in_bounds
run_on-ran-requires-clause-bytes_in_bounds c =
    subst (λ (k : ℕ). length (recs_of (take c.span-used.result c.args.bytes.now)) ≤ k) (sym c.requires.lent.answers)
    (span_few 1024 c.args.bytes.now c.span-used.ensures)

pub slice_bounds-put_codes-end : goal.slice_bounds-put_codes-end
slice_bounds-put_codes-end c =
    let roomy : 256 * 1024 ≤ length c.args.replies.now = omega (arith, c.requires.lent.replies) in
    let enough : 1024 ≤ length c.args.answers.now = omega (arith, c.requires.lent.answers) in
    told_within did_of did_fits did_own 1024 c.args.bytes.now c.span-used.ensures c.run_on-ran.ensures.running roomy enough

pub slice_bounds-put_codes-end-2 : goal.slice_bounds-put_codes-end-2
slice_bounds-put_codes-end-2 c =
    let roomy : 256 * 1024 ≤ length c.args.replies.now = omega (arith, c.requires.lent.replies) in
    let enough : 1024 ≤ length c.args.answers.now = omega (arith, c.requires.lent.answers) in
    sym (length-take-le _ _ (told_within did_of did_fits did_own 1024 c.args.bytes.now c.span-used.ensures c.run_on-ran.ensures.running roomy enough))

pub slice_bounds-put_codes-end-3 : goal.slice_bounds-put_codes-end-3
slice_bounds-put_codes-end-3 c =
    let roomy : 256 * 1024 ≤ length c.args.replies.now = omega (arith, c.requires.lent.replies) in
    let enough : 1024 ≤ length c.args.answers.now = omega (arith, c.requires.lent.answers) in
    after_within did_of did_fits did_own 1024 c.args.bytes.now c.span-used.ensures c.run_on-ran.ensures.running roomy enough

pub slice_bounds-put_codes-end-4 : goal.slice_bounds-put_codes-end-4
slice_bounds-put_codes-end-4 c =
    let roomy : 256 * 1024 ≤ length c.args.replies.now = omega (arith, c.requires.lent.replies) in
    let enough : 1024 ≤ length c.args.answers.now = omega (arith, c.requires.lent.answers) in
    sym (length-take-le _ _ (after_within did_of did_fits did_own 1024 c.args.bytes.now c.span-used.ensures c.run_on-ran.ensures.running roomy enough))

pub put_codes-requires-clause-replies_in_bounds : goal.put_codes-requires-clause-replies_in_bounds
put_codes-requires-clause-replies_in_bounds c =
    let roomy : 256 * 1024 ≤ length c.args.replies.now = omega (arith, c.requires.lent.replies) in
    let enough : 1024 ≤ length c.args.answers.now = omega (arith, c.requires.lent.answers) in
    let few = lines_within did_of did_fits did_own 1024 c.args.bytes.now c.span-used.ensures c.run_on-ran.ensures.running roomy enough in
    let within = replied_within did_of did_fits did_own 1024 c.args.bytes.now c.span-used.ensures c.run_on-ran.ensures.running roomy enough in
    let ended = c.run_on-ran.result.ended in
    let told = take ended.lines c.run_on-ran.new.answers in
    let after = take ended.replied c.run_on-ran.new.room in
    omega (
      arith,
      length-take ended.lines c.run_on-ran.new.answers,
      length-take ended.replied c.run_on-ran.new.room,
      few,
      within,
      most_long c.args.first (length told) (length after),
      ap length c.new-page.ensures.same,
      c.new-page.ensures.front,
      c.requires.lent.out,
      c.requires.lent.replies,
      c.requires.lent.answers,
    )

pub returns-clause-turning : goal.returns-clause-turning
returns-clause-turning c =
    let roomy : 256 * 1024 ≤ length c.args.replies.now = omega (arith, c.requires.lent.replies) in
    let enough : 1024 ≤ length c.args.answers.now = omega (arith, c.requires.lent.answers) in
    turned did_of did_fits did_own 1024 c.args.bytes.now c.span-used.ensures c.run_on-ran.ensures.running roomy enough
    (λ i. (c.type_inv.bytes i).fits) c.args.first (fronted c.new-page.ensures c.put_codes.ensures (search rules))

pub returns-clause-few : goal.returns-clause-few
returns-clause-few c =
    let roomy : 256 * 1024 ≤ length c.args.replies.now = omega (arith, c.requires.lent.replies) in
    let enough : 1024 ≤ length c.args.answers.now = omega (arith, c.requires.lent.answers) in
    omega (
      arith,
      lines_within did_of did_fits did_own 1024 c.args.bytes.now c.span-used.ensures c.run_on-ran.ensures.running roomy enough,
      c.requires.lent.answers,
    )
