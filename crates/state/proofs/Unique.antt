-- The contracts of this crate's public functions leave no choice.
use Rattle.std.proofs.Common.{sym, refl, ◌∙◌}
use Rattle.numbers.specs.Once.{Once}
use Rattle.state.proofs.family
use Rattle.state.specs.contracts.family as family'
use Rattle.state.proofs.image_size
use Rattle.state.specs.contracts.image_size as image_size'
use Rattle.state.proofs.blanking_edge
use Rattle.state.specs.contracts.blanking_edge as blanking_edge'
use Rattle.state.proofs.counts_cycles
use Rattle.state.specs.contracts.counts_cycles as counts_cycles'
use Rattle.state.proofs.Meter.powered
use Rattle.state.specs.contracts.Meter.powered as powered'
use Rattle.state.proofs.Meter.restarted
use Rattle.state.specs.contracts.Meter.restarted as restarted'
use Rattle.state.proofs.elapsed
use Rattle.state.specs.contracts.elapsed as elapsed'
use Rattle.state.proofs.timely
use Rattle.state.specs.contracts.timely as timely'

pub family_once : Once family'.ended family.Reads.Pre family.Reads.Learnt
family_once κs a r r' w w' p h h' = (h ∙ sym h', refl)

pub image_size_once : Once image_size'.ended image_size.Reads.Pre image_size.Reads.Learnt
image_size_once κs a r r' w w' p h h' = (h.0 ∙ sym h'.0, refl)

pub blanking_edge_once : Once blanking_edge'.ended blanking_edge.Reads.Pre blanking_edge.Reads.Learnt
blanking_edge_once κs a r r' w w' p h h' = (h.0 ∙ sym h'.0, refl)

pub counts_cycles_once : Once counts_cycles'.ended counts_cycles.Reads.Pre counts_cycles.Reads.Learnt
counts_cycles_once κs a r r' w w' p h h' = (h ∙ sym h', refl)

pub powered_once : Once powered'.ended powered.Reads.Pre powered.Reads.Learnt
powered_once κs a r r' w w' p h h' = (h.0 ∙ sym h'.0, refl)

pub restarted_once : Once restarted'.ended restarted.Reads.Pre restarted.Reads.Learnt
restarted_once κs a r r' w w' p h h' = (h.0 ∙ sym h'.0, refl)

pub elapsed_once : Once elapsed'.ended elapsed.Reads.Pre elapsed.Reads.Learnt
elapsed_once κs a r r' w w' p h h' = (h ∙ sym h', refl)

pub timely_once : Once timely'.ended timely.Reads.Pre timely.Reads.Learnt
timely_once κs a r r' w w' p h h' = (h ∙ sym h', refl)
