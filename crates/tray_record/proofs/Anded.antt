-- The AND of two replies, as a loop over them works it out.
use mathlib.Core.Path.{◌≡◌, refl, ap}
use mathlib.Core.List.{List, [], ◌∷◌, ◌++◌}
use Prim.Native.Nat.{ℕ, zero, suc, ◌≤◌, ◌<◌}
use native.Mathlib.Omega.{arith}
use lib.Bits.{bit_and}
use lib.ListN.{length, get_or, set}
use Rattle.tray_record.specs.Wire.{and_bytes}

-- the first i bytes are done
abbrev pub and_from : ℕ → List ℕ → List ℕ → List ℕ
and_from zero room reply = and_bytes room reply
and_from (suc i) [] reply = []
and_from (suc i) (a ∷ room) [] = a ∷ room
and_from (suc i) (a ∷ room) (b ∷ reply) = a ∷ and_from i room reply

pub and_more : (i : ℕ) (room reply : List ℕ) → i < length reply → length reply ≤ length room
    → and_from (suc i) (set room i (bit_and (get_or room i 0) (get_or reply i 0))) reply ≡ and_from i room reply
and_more i room [] h k = absurd (omega arith)
and_more i [] (b ∷ reply) h k = absurd (omega arith)
and_more zero (a ∷ room) (b ∷ reply) h k = refl
and_more (suc i) (a ∷ room) (b ∷ reply) h k = ap (λ (l : List ℕ). a ∷ l) (and_more i room reply (omega arith) (omega arith))

pub and_end : (i : ℕ) (room reply : List ℕ) → length reply ≤ i → and_from i room reply ≡ room
and_end zero [] reply h = refl
and_end zero (a ∷ room) [] h = refl
and_end zero (a ∷ room) (b ∷ reply) h = absurd (omega arith)
and_end (suc i) [] reply h = refl
and_end (suc i) (a ∷ room) [] h = refl
and_end (suc i) (a ∷ room) (b ∷ reply) h = ap (λ (l : List ℕ). a ∷ l) (and_end i room reply (omega arith))

-- behind the reply the room stays
pub and_front : (a r reply : List ℕ) → length a ≡ length reply → and_bytes (a ++ r) reply ≡ and_bytes a reply ++ r
and_front [] [] reply h = refl
and_front [] (x ∷ r) [] h = refl
and_front [] (x ∷ r) (b ∷ reply) h = absurd (omega arith)
and_front (a ∷ rest) r [] h = absurd (omega arith)
and_front (a ∷ rest) r (b ∷ reply) h = ap (λ (l : List ℕ). bit_and a b ∷ l) (and_front rest r reply (omega arith))

pub and_length : (a reply : List ℕ) → length (and_bytes a reply) ≡ length a
and_length [] reply = refl
and_length (a ∷ rest) [] = refl
and_length (a ∷ rest) (b ∷ reply) = ap suc (and_length rest reply)
