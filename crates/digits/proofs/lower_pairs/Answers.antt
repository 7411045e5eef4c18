-- `digits::lower_pairs` meets its contract, which antt computes over all entries of the constant.
use mathlib.Core.Path.{refl}
use Rattle.digits.specs.Digits.{hex_of, pairs_of}
use Rattle.digits.proofs.lower_pairs.Goals as goal

pub returns : goal.returns
unfolding hex_of pairs_of
returns c = refl
