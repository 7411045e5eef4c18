use Rattle.state_bytes.proofs.Laws.{stored_then, stored_as}
use Rattle.state_bytes.proofs.cells_out.Goals as goal

pub returns : goal.returns
returns c = stored_then (stored_as c.cells_head-head.ensures c.store_array.ensures)
    (stored_then c.store_array-2.ensures c.store_array-3.ensures)
