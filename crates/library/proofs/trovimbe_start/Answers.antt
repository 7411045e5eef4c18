use Rattle.library.specs.Library.{kept_pack}
use Rattle.library.proofs.Calls.{not_started, pack_started}
use Rattle.library.proofs.trovimbe_start.Goals as goal

pub returns-then-state-ne172 : goal.returns-then-state-ne172
returns-then-state-ne172 c = not_started kept_pack c.if-state-ne172.true

pub returns : goal.returns
returns c = pack_started c.if-state-ne172.false c.empty-before.ensures.value c.state_out.ensures
