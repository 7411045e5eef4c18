-- THE TWO ENGINES, request [5] of document 02.
--
-- "Two engines, the plain repetition and a quick one that works out whole stretches at once, are proved equal for every state and every n from 1 to 64."
--
-- Said of every n, also above 64. Both functions ask for a well-formed meter (`MeterWf`), which a power-on gives and every event keeps: of such a meter each
-- is proved to have a result.
use Rattle.std.specs.Prelude.{◌≡◌, ℕ}
use denote.Triple.Clauses.{at_exit}
use Rattle.state.specs.declared.Meter.{Meter}
use Rattle.samples.proofs.plain as repeater
use Rattle.samples.specs.contracts.plain as repeater'
use Rattle.samples.proofs.quick as stretcher
use Rattle.samples.specs.contracts.quick as stretcher'

-- an engine, as its contract tells of it: the meters that it may give for a meter, a raw current and n
abbrev pub Engine : Type 1
Engine = Meter → ℕ → ℕ → Meter → Type 0

-- `samples::plain` and `samples::quick`
abbrev pub plainly : Engine
plainly meter raw n r = repeater.Reads.Learnt _ (meter, (raw, (n, tt))) r (at_exit repeater'.ended _ (meter, (raw, (n, tt))) _)

abbrev pub quickly : Engine
quickly meter raw n r = stretcher.Reads.Learnt _ (meter, (raw, (n, tt))) r (at_exit stretcher'.ended _ (meter, (raw, (n, tt))) _)

-- any two results that their contracts allow for one meter, one raw current and any n are equal
abbrev pub EnginesEqual : Type 0
EnginesEqual = (meter : Meter) (raw n : ℕ) (a b : Meter) → plainly meter raw n a → quickly meter raw n b → a ≡ b
