-- `crc::whole_table` meets its contract: one test that antt computes over all entries of the constant.
use mathlib.Core.Path.{◌≡◌, refl}
use mathlib.Core.Bool.{Bool}
use mathlib.Core.List.{List}
use Prim.Native.Nat.{ℕ, ◌<◌}
use lib.Dec.{T, eqb, eqb→eq}
use lib.ListN.{length, get_or}
use Rattle.crc.specs.Crc.{bit_of, eight_of}
use Rattle.numbers.proofs.Table.{every, at}
use Rattle.crc.proofs.whole_table.Goals as goal

abbrev right : ℕ → ℕ → Bool
right k x = eqb x (eight_of k)

rule : (table : List ℕ) (k : ℕ) → T (every right 0 table) → k < length table → get_or table k 0 ≡ eight_of k
rule table k passed h = eqb→eq (get_or table k 0) (eight_of k) (at right table passed k h)

pub returns : goal.returns
unfolding bit_of eight_of
returns c = record { ruled = λ k h. let passed : Unit {0} = tt in rw rule; sized = refl }
