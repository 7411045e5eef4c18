use Rattle.state_bytes.proofs.Laws.{stored_then, stored_as}
use Rattle.state_bytes.proofs.cycles_on.Goals as goal

pub returns : goal.returns
returns c = stored_then (stored_as c.cycles_bytes.ensures c.store_array.ensures)
    (stored_as c.shown_bytes.ensures c.store_array-2.ensures)
