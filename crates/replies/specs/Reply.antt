-- Whom a transaction selects, and the bytes that it is answered with, by the parts of the gauge.
use Rattle.std.specs.Prelude.{ℕ, zero, suc, ◌+◌, Bool, true, false, List, [], ◌∷◌, ltb, length, get_or}
use Rattle.numbers.specs.Choice.{pick}
use Rattle.slices.specs.Slices.{laid_of}
use Rattle.state.specs.declared.Meter.{Meter}
use Rattle.params.specs.Params.{rnaop_of}
use Rattle.state.specs.declared.Common.{Common}
use Rattle.state.specs.declared.Label.{Label}
use Rattle.label.specs.Label.{in_label, label_byte}
use Rattle.registers.specs.Registers.{meter_byte}
use Rattle.bus.specs.declared.Rom.{Rom}
use Rattle.bus.specs.declared.Rom.TheVariants.{Net33, Net39, Skip, Match, Quiet}
use Rattle.bus.specs.declared.Command.{Command}
use Rattle.bus.specs.declared.Command.TheVariants.{Read, Write, Copy, Recall, Lock, Nothing}
use Rattle.bus.specs.declared.Transaction.{Transaction}
use Rattle.bus.specs.Ask.{own_of}
use Rattle.replies.specs.declared.Source.{Source}
use Rattle.replies.specs.declared.Source.TheVariants.{Address, Bytes, Idle}

-- CCh selects; 55h with the 8 own address bytes selects
abbrev pub selected_by : Rom → List ℕ → List ℕ → Bool
selected_by Skip address master = true
selected_by Match address master = own_of address master
selected_by Net33 address master = false
selected_by Net39 address master = false
selected_by Quiet address master = false

-- selection looks at the address alone
unfoldable pub selected_of : List ℕ → Transaction → List ℕ → Bool
selected_of address transaction master = selected_by transaction.rom address master

-- ---- where a reply comes from

-- all but 69h reply FFh
abbrev pub read_source_of : Command → ℕ → Source
read_source_of Read a = Bytes a
read_source_of Write a = Idle
read_source_of Copy a = Idle
read_source_of Recall a = Idle
read_source_of Lock a = Idle
read_source_of Nothing a = Idle

-- 33h with RNAOP 0 and 39h with RNAOP 1 reply the address
abbrev pub net_source_of : Rom → Bool → Source
net_source_of Net33 rnaop = pick rnaop Idle Address
net_source_of Net39 rnaop = pick rnaop Address Idle
net_source_of Skip rnaop = Idle
net_source_of Match rnaop = Idle
net_source_of Quiet rnaop = Idle

-- by whether the gauge is selected; RNAOP is in the shadow bytes of block 1
abbrev pub reply_source_of : Bool → List ℕ → Transaction → Source
reply_source_of chosen shadow transaction =
    pick chosen (read_source_of transaction.command transaction.address) (net_source_of transaction.rom (rnaop_of shadow))

-- ---- the reply

-- 69h: the byte that a read of the address a gives
unfoldable pub read_byte : Common → Label → Meter → ℕ → ℕ
read_byte common label meter a = pick (in_label a) (label_byte label a) (meter_byte common meter a)

-- a net address read: the 8 address bytes, then FFh
abbrev pub net_byte : List ℕ → ℕ → ℕ
net_byte address i = pick (ltb i 8) (get_or address i 0) 0xff

-- the reply's byte i: of the address; of the map from a upward; or FFh
unfoldable pub source_byte : Common → Label → Meter → Source → ℕ → ℕ
source_byte common label meter Address i = net_byte common.address i
source_byte common label meter (Bytes a) i = read_byte common label meter (a + i)
source_byte common label meter Idle i = 0xff

-- bytes that stand from the address base on, laid over a room that stands from the address a on
abbrev pub over_of : ℕ → List ℕ → ℕ → List ℕ → List ℕ
over_of base bytes a room = laid_of a (a + length room) room base bytes

-- n values of f from i on
abbrev pub listed : (ℕ → ℕ) → ℕ → ℕ → List ℕ
listed f i zero = []
listed f i (suc n) = f i ∷ listed f (i + 1) n

-- by whether the gauge is selected: exactly the read count of bytes
abbrev pub replied_of : Bool → Common → Label → Meter → Transaction → List ℕ
replied_of chosen common label meter transaction =
    listed (source_byte common label meter (reply_source_of chosen meter.cells.block.shadow transaction)) 0 transaction.count
