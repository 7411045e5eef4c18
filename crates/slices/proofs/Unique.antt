-- The contracts of this crate's public functions leave no choice.
use mathlib.Core.Path.{refl, sym, ◌∙◌}
use Prim.Native.Nat.{ℕ}
use denote.Param.{number}
use mir.Syntax.{w64}
use mir.Val.{Fits}
use Rattle.numbers.specs.Once.{Once}
use Rattle.slices.proofs.store
use Rattle.slices.specs.contracts.store as store'
use Rattle.slices.proofs.laid
use Rattle.slices.specs.contracts.laid as laid'
use Rattle.slices.proofs.array_at
use Rattle.slices.specs.contracts.array_at as array_at'
use Rattle.slices.proofs.sixteen
use Rattle.slices.specs.contracts.sixteen as sixteen'
use Rattle.slices.proofs.store_array
use Rattle.slices.specs.contracts.store_array as store_array'
use Rattle.slices.proofs.pair
use Rattle.slices.specs.contracts.pair as pair'
use Rattle.slices.proofs.quad
use Rattle.slices.specs.contracts.quad as quad'

pub store_once : Once store'.ended store.Reads.Pre store.Reads.Learnt
store_once κs a r r' w w' p h h' = (refl, λ i. (tt, ((h ∙ sym h') i, (tt, tt))))

pub laid_once : Once laid'.ended laid.Reads.Pre laid.Reads.Learnt
laid_once κs a r r' w w' p h h' = (refl, λ i. ((h ∙ sym h') i, (tt, (tt, (tt, tt)))))

-- of any length
pub array_at_once : (n : ℕ) (fits : Fits w64 n) → Once (array_at'.ended (number n)) (array_at.Reads.Pre n fits) (array_at.Reads.Learnt n fits)
array_at_once n fits κs a r r' w w' p h h' = (h ∙ sym h', refl)

pub sixteen_once : Once sixteen'.ended sixteen.Reads.Pre sixteen.Reads.Learnt
sixteen_once κs a r r' w w' p h h' = (h ∙ sym h', refl)

pub store_array_once : (n : ℕ) (fits : Fits w64 n)
    → Once (store_array'.ended (number n)) (store_array.Reads.Pre n fits) (store_array.Reads.Learnt n fits)
store_array_once n fits κs a r r' w w' p h h' = (refl, λ i. (tt, ((h.written ∙ sym h'.written) i, (tt, tt))))

pub pair_once : Once pair'.ended pair.Reads.Pre pair.Reads.Learnt
pair_once κs a r r' w w' p h h' = (h ∙ sym h', refl)

pub quad_once : Once quad'.ended quad.Reads.Pre quad.Reads.Learnt
quad_once κs a r r' w w' p h h' = (h ∙ sym h', refl)
