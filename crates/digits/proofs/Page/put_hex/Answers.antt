-- `digits::Page::put_hex` meets its contract: the bytes are those up to a place and those from there on.
use Prim.Native.Nat.{◌/◌, ◌*◌}
use native.Mathlib.Omega.{arith}
use lib.ListN.{length}
use Rattle.digits.proofs.Laws.{hex_parts}
use Rattle.digits.proofs.Page.put_hex.Goals as goal

pub returns : goal.returns
returns c = let bytes = c.args.bytes.now in
    hex_parts bytes (length bytes / 8 * 8) (omega arith) c.put_pairs.ensures c.put_few-2.ensures
