use native.Mathlib.Omega.{arith}
use Rattle.digits.specs.Digits.{letter_of}
use Rattle.digits.proofs.Laws.{hex_then}
use Rattle.digits.proofs.Page.put_pairs.Goals as goal

pub loop-b-preserved : goal.loop-b-preserved
loop-b-preserved c = hex_then (letter_of c.args.letters) c.args.bytes.now _ (omega arith) c.loop-b.invariant c.put_pair.ensures
