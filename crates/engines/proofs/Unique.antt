-- The contracts of this program's functions leave no choice.
use mathlib.Core.Path.{refl, sym, ◌∙◌}
use Rattle.numbers.specs.Once.{Once}
use Rattle.digits.proofs.Unique.{same}
use Rattle.streams.proofs.Laws.{own_read, same_said, same_room}
use Rattle.engines.proofs.charge_sound
use Rattle.engines.specs.contracts.charge_sound as charge_sound'
use Rattle.engines.proofs.shown_sound
use Rattle.engines.specs.contracts.shown_sound as shown_sound'
use Rattle.engines.proofs.average_sound
use Rattle.engines.specs.contracts.average_sound as average_sound'
use Rattle.engines.proofs.sound
use Rattle.engines.specs.contracts.sound as sound'
use Rattle.engines.proofs.put_registers
use Rattle.engines.specs.contracts.put_registers as put_registers'
use Rattle.engines.proofs.put_line
use Rattle.engines.specs.contracts.put_line as put_line'
use Rattle.engines.proofs.put_lines
use Rattle.engines.specs.contracts.put_lines as put_lines'
use Rattle.engines.proofs.put_ended
use Rattle.engines.specs.contracts.put_ended as put_ended'
use Rattle.engines.proofs.put_missized
use Rattle.engines.specs.contracts.put_missized as put_missized'
use Rattle.engines.proofs.put_compared
use Rattle.engines.specs.contracts.put_compared as put_compared'
use Rattle.engines.proofs.compared
use Rattle.engines.specs.contracts.compared as compared'

pub charge_sound_once : Once charge_sound'.ended charge_sound.Reads.Pre charge_sound.Reads.Learnt
charge_sound_once κs a r r' w w' p h h' = (h ∙ sym h', refl)

pub average_sound_once : Once average_sound'.ended average_sound.Reads.Pre average_sound.Reads.Learnt
average_sound_once κs a r r' w w' p h h' = (h ∙ sym h', refl)

pub shown_sound_once : Once shown_sound'.ended shown_sound.Reads.Pre shown_sound.Reads.Learnt
shown_sound_once κs a r r' w w' p h h' = (h ∙ sym h', refl)

pub sound_once : Once sound'.ended sound.Reads.Pre sound.Reads.Learnt
sound_once κs a r r' w w' p h h' = (h ∙ sym h', refl)

pub put_registers_once : Once put_registers'.ended put_registers.Reads.Pre put_registers.Reads.Learnt
put_registers_once κs a r r' w w' p h h' = (refl, λ i. (tt, (tt, (same h h' i, tt))))

pub put_line_once : Once put_line'.ended put_line.Reads.Pre put_line.Reads.Learnt
put_line_once κs a r r' w w' p h h' = (refl, λ i. (tt, (tt, (same h h' i, tt))))

pub put_lines_once : Once put_lines'.ended put_lines.Reads.Pre put_lines.Reads.Learnt
put_lines_once κs a r r' w w' p h h' = (h.onward ∙ sym h'.onward, λ i. (tt, (tt, (tt, ((h.written ∙ sym h'.written) i, tt)))))

pub put_ended_once : Once put_ended'.ended put_ended.Reads.Pre put_ended.Reads.Learnt
put_ended_once κs a r r' w w' p h h' = (same_said h h', λ i. (tt, (tt, (tt, (same_room h h' i, tt)))))

pub put_missized_once : Once put_missized'.ended put_missized.Reads.Pre put_missized.Reads.Learnt
put_missized_once κs a r r' w w' p h h' = (same_said h h', λ i. (same_room h h' i, tt))

pub put_compared_once : Once put_compared'.ended put_compared.Reads.Pre put_compared.Reads.Learnt
put_compared_once κs a r r' w w' p h h' = (same_said h h', λ i. (tt, (same_room h h' i, tt)))

pub compared_once : Once compared'.ended compared.Reads.Pre compared.Reads.Learnt
compared_once κs a r r' w w' p h h' =
    let front = own_read a.0.now a.1.0 in
    let x = h _ front in
    let y = h' _ front in
    (same_said x y, λ i. (tt, (tt, (same_room x y i, tt))))
