-- What holds of a refusal for room, and of what is asked, holds of what is asked with so much room left.
use lib.Dec.{ltb}
use Prim.Native.Nat.{ℕ}
use Rattle.std.specs.Prelude.{Ok, Err}
use Rattle.numbers.proofs.Bounds.{picked}
use Rattle.record.specs.declared.Refusal.TheVariants.{Room}
use Rattle.record.specs.Record.{asks_of, fitted_of, Taken}

pub fitted_has : (P : Taken → Type 0) → P (Err Room) → (room : ℕ) (t : Taken) → P t → P (fitted_of room t)
fitted_has P none room (Ok e) h = picked P (ltb room (asks_of e)) _ _ (λ full. none) (λ fits. h)
fitted_has P none room (Err r) h = h
