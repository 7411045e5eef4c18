-- An image taken out of a state: how many bytes it has, or the refusal with which nothing was written.
use Rattle.std.specs.Prelude.{Bool, ℕ, Result, Ok, Err}
use Rattle.numbers.specs.Choice.{pick}
use Rattle.record.specs.declared.Refusal.{Refusal}
use Rattle.record.specs.declared.Refusal.TheVariants.{Order, Room}
use Rattle.record.specs.Record.{refusal_number}

-- the answer number of what was done or refused
abbrev pub number_in : {A : Type 0} → Result A Refusal → ℕ
number_in (Ok done) = 0
number_in (Err r) = refusal_number r

-- by whether there is an image, and whether it fits the room
abbrev pub out_by : Bool → Bool → ℕ → Result ℕ Refusal
out_by there fits size = pick there (pick fits (Ok size) (Err Room)) (Err Order)
