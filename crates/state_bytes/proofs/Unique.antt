-- The contracts of this crate's public functions leave no choice.
use mathlib.Core.Path.{refl, sym, ◌∙◌}
use Rattle.numbers.specs.Once.{Once}
use Rattle.state_bytes.proofs.U8FromStateRefusal.from as refusal
use Rattle.state_bytes.specs.contracts.U8FromStateRefusal.from as refusal'
use Rattle.state_bytes.proofs.state_out
use Rattle.state_bytes.specs.contracts.state_out as state_out'
use Rattle.state_bytes.proofs.state_in
use Rattle.state_bytes.specs.contracts.state_in as state_in'
use Rattle.state_bytes.proofs.state_step
use Rattle.state_bytes.specs.contracts.state_step as state_step'
use Rattle.state_bytes.proofs.tray_state_out
use Rattle.state_bytes.specs.contracts.tray_state_out as tray_state_out'
use Rattle.state_bytes.proofs.tray_state_in
use Rattle.state_bytes.specs.contracts.tray_state_in as tray_state_in'
use Rattle.state_bytes.proofs.tray_state_step
use Rattle.state_bytes.specs.contracts.tray_state_step as tray_state_step'

pub state_refusal_number_once : Once refusal'.ended refusal.Reads.Pre refusal.Reads.Learnt
state_refusal_number_once κs a r r' w w' p h h' = (h ∙ sym h', refl)

pub state_out_once : Once state_out'.ended state_out.Reads.Pre state_out.Reads.Learnt
state_out_once κs a r r' w w' p h h' = (h.fits ∙ sym h'.fits, λ i. (tt, ((h.written ∙ sym h'.written) i, tt)))

pub state_in_once : Once state_in'.ended state_in.Reads.Pre state_in.Reads.Learnt
state_in_once κs a r r' w w' p h h' = (h.0 ∙ sym h'.0, refl)

pub state_step_once : Once state_step'.ended state_step.Reads.Pre state_step.Reads.Learnt
state_step_once κs a r r' w w' p h h' =
    let kept = h.kept ∙ sym h'.kept in
    let written = h.written ∙ sym h'.written in
    (h.said ∙ sym h'.said, λ i. (kept i, (tt, (written i, tt))))

pub tray_state_out_once : Once tray_state_out'.ended tray_state_out.Reads.Pre tray_state_out.Reads.Learnt
tray_state_out_once κs a r r' w w' p h h' = (h.fits ∙ sym h'.fits, λ i. (tt, ((h.written ∙ sym h'.written) i, tt)))

pub tray_state_in_once : Once tray_state_in'.ended tray_state_in.Reads.Pre tray_state_in.Reads.Learnt
tray_state_in_once κs a r r' w w' p h h' = (h.0 ∙ sym h'.0, refl)

pub tray_state_step_once : Once tray_state_step'.ended tray_state_step.Reads.Pre tray_state_step.Reads.Learnt
tray_state_step_once κs a r r' w w' p h h' =
    let kept = h.kept ∙ sym h'.kept in
    let written = h.written ∙ sym h'.written in
    (h.said ∙ sym h'.said, λ i. (kept i, (tt, (written i, tt))))
