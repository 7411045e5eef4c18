-- The contracts of this program's functions leave no choice.
use mathlib.Core.Path.{refl, sym, ◌∙◌}
use Rattle.numbers.specs.Once.{Once}
use Rattle.digits.proofs.Unique.{same}
use Rattle.streams.proofs.Laws.{own_read, same_said, same_room}
use Rattle.hex_in.proofs.put_cause
use Rattle.hex_in.specs.contracts.put_cause as put_cause'
use Rattle.hex_in.proofs.put_flaw
use Rattle.hex_in.specs.contracts.put_flaw as put_flaw'
use Rattle.hex_in.proofs.put_gap
use Rattle.hex_in.specs.contracts.put_gap as put_gap'
use Rattle.hex_in.proofs.put_why
use Rattle.hex_in.specs.contracts.put_why as put_why'
use Rattle.hex_in.proofs.put_import
use Rattle.hex_in.specs.contracts.put_import as put_import'
use Rattle.hex_in.proofs.imported
use Rattle.hex_in.specs.contracts.imported as imported'

pub put_cause_once : Once put_cause'.ended put_cause.Reads.Pre put_cause.Reads.Learnt
put_cause_once κs a r r' w w' p h h' = (refl, λ i. (tt, (same h h' i, tt)))

pub put_flaw_once : Once put_flaw'.ended put_flaw.Reads.Pre put_flaw.Reads.Learnt
put_flaw_once κs a r r' w w' p h h' = (same_said h h', λ i. (tt, (tt, (same_room h h' i, tt))))

pub put_gap_once : Once put_gap'.ended put_gap.Reads.Pre put_gap.Reads.Learnt
put_gap_once κs a r r' w w' p h h' = (same_said h h', λ i. (tt, (tt, (same_room h h' i, tt))))

pub put_why_once : Once put_why'.ended put_why.Reads.Pre put_why.Reads.Learnt
put_why_once κs a r r' w w' p h h' = (same_said h h', λ i. (tt, (tt, (same_room h h' i, tt))))

pub put_import_once : Once put_import'.ended put_import.Reads.Pre put_import.Reads.Learnt
put_import_once κs a r r' w w' p h h' = (same_said h h', λ i. (tt, (same_room h h' i, tt)))

pub imported_once : Once imported'.ended imported.Reads.Pre imported.Reads.Learnt
imported_once κs a r r' w w' p h h' =
    let front = own_read a.0.now a.1.0 in
    let x = h _ front in
    let y = h' _ front in
    (same_said x y, λ i. (tt, (tt, (same_room x y i, tt))))
