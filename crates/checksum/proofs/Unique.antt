-- The contracts of this program's functions leave no choice.
use mathlib.Core.Path.{refl, sym, ◌∙◌}
use lib.ListN.{drop}
use Rattle.numbers.specs.Once.{Once}
use Rattle.streams.proofs.Laws.{own_read, same_said, same_room}
use Rattle.checksum.specs.Sums.{sums_text}
use Rattle.checksum.proofs.Laws.{front_line}
use Rattle.checksum.proofs.crc_line
use Rattle.checksum.specs.contracts.crc_line as crc_line'
use Rattle.checksum.proofs.there
use Rattle.checksum.specs.contracts.there as there'
use Rattle.checksum.proofs.first_message
use Rattle.checksum.specs.contracts.first_message as first_message'
use Rattle.checksum.proofs.put_sums
use Rattle.checksum.specs.contracts.put_sums as put_sums'
use Rattle.checksum.proofs.put_checked
use Rattle.checksum.specs.contracts.put_checked as put_checked'
use Rattle.checksum.proofs.put_lines
use Rattle.checksum.specs.contracts.put_lines as put_lines'
use Rattle.checksum.proofs.summed
use Rattle.checksum.specs.contracts.summed as summed'

pub crc_line_once : Once crc_line'.ended crc_line.Reads.Pre crc_line.Reads.Learnt
crc_line_once κs a r r' w w' p h h' = (h ∙ sym h', refl)

pub there_once : Once there'.ended there.Reads.Pre there.Reads.Learnt
there_once κs a r r' w w' p h h' = (h ∙ sym h', refl)

pub first_message_once : Once first_message'.ended first_message.Reads.Pre first_message.Reads.Learnt
first_message_once κs a r r' w w' p h h' =
    let size = h.goes ∙ sym h'.goes in
    let rest = sums_text (drop r.size a.0.now) in
    let line = front_line r.line r'.line rest h.three h'.three (sym h.lines ∙ rw (← size) at h'.lines) in
    (λ i. record { line = line i; size = size i }, refl)

pub put_sums_once : Once put_sums'.ended put_sums.Reads.Pre put_sums.Reads.Learnt
put_sums_once κs a r r' w w' p h h' = (h.onward ∙ sym h'.onward, λ i. (tt, ((h.written ∙ sym h'.written) i, tt)))

pub put_checked_once : Once put_checked'.ended put_checked.Reads.Pre put_checked.Reads.Learnt
put_checked_once κs a r r' w w' p h h' = (h.onward ∙ sym h'.onward, λ i. (tt, ((h.written ∙ sym h'.written) i, tt)))

pub put_lines_once : Once put_lines'.ended put_lines.Reads.Pre put_lines.Reads.Learnt
put_lines_once κs a r r' w w' p h h' = (same_said h h', λ i. (tt, (same_room h h' i, tt)))

pub summed_once : Once summed'.ended summed.Reads.Pre summed.Reads.Learnt
summed_once κs a r r' w w' p h h' =
    let front = own_read a.0.now a.1.0 in
    let x = h _ front in
    let y = h' _ front in
    (same_said x y, λ i. (tt, (tt, (same_room x y i, tt))))
