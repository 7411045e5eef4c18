-- What the master's bytes ask. Each transaction starts at a bus reset.
use Rattle.std.specs.Prelude.{ℕ, ◌+◌, ◌<◌, Bool, true, false, List, [], ◌∷◌, length, get_or, take, drop, ltb, eqb}
use Rattle.numbers.specs.Choice.{pick, both}
use Rattle.bus.specs.declared.Rom.{Rom}
use Rattle.bus.specs.declared.Rom.TheVariants.{Net33, Net39, Skip, Match, Quiet}
use Rattle.bus.specs.declared.Command.{Command}
use Rattle.bus.specs.declared.Command.TheVariants.{Read, Write, Copy, Recall, Lock, Nothing}
use Rattle.bus.specs.declared.Transaction.{Transaction}

-- the first master byte: 33h and 39h ask for the net address, CCh and 55h select, all else is nothing
unfoldable pub rom_by : ℕ → Rom
rom_by b =
    pick (eqb b 0x33) Net33 (pick (eqb b 0x39) Net39 (pick (eqb b 0xcc) Skip (pick (eqb b 0x55) Match Quiet)))

abbrev pub rom_of : List ℕ → Rom
rom_of [] = Quiet
rom_of (b ∷ bs) = rom_by b

-- the five function commands; other commands do nothing
unfoldable pub command_of : ℕ → Command
command_of b =
    pick (eqb b 0x69) Read
    (pick (eqb b 0x6c) Write (pick (eqb b 0x48) Copy (pick (eqb b 0xb8) Recall (pick (eqb b 0x6a) Lock Nothing))))

-- a transaction with no function command; its master bytes start so far into its payload
abbrev pub plain_of : ℕ → ℕ → Rom → Transaction
plain_of start count rom = record { start = start; from = 0; address = 0; rom = rom; command = Nothing; count = count }

-- the function command at a place of the master bytes, its address byte, and where the bytes after them start; a missing address does nothing
unfoldable pub asked_at : ℕ → ℕ → Rom → ℕ → List ℕ → Transaction
asked_at start count rom at master =
    pick (ltb (length master) (at + 2)) (plain_of start count rom)
    (record {
      start = start;
      from = at + 2;
      address = get_or master (at + 1) 0;
      rom = rom;
      command = command_of (get_or master at 0);
      count = count;
    })

-- CCh is followed by the function command, 55h by 8 address bytes and then the function command; none follows a net address read
abbrev pub asked_by : ℕ → ℕ → List ℕ → Rom → Transaction
asked_by start count master Skip = asked_at start count Skip 1 master
asked_by start count master Match = asked_at start count Match 9 master
asked_by start count master Net33 = plain_of start count Net33
asked_by start count master Net39 = plain_of start count Net39
asked_by start count master Quiet = plain_of start count Quiet

unfoldable pub asked_of : ℕ → ℕ → List ℕ → Transaction
asked_of start count master = asked_by start count master (rom_of master)

-- what stands at each place is a byte
abbrev pub AllBytes : List ℕ → Type 0
AllBytes a = (i : ℕ) → get_or a i 0 < 256

-- two lists have the same bytes
abbrev pub same_bytes : List ℕ → List ℕ → Bool
same_bytes [] [] = true
same_bytes [] (y ∷ ys) = false
same_bytes (x ∷ xs) [] = false
same_bytes (x ∷ xs) (y ∷ ys) = both (eqb x y) (same_bytes xs ys)

-- the 8 bytes after the first are the own address
unfoldable pub own_of : List ℕ → List ℕ → Bool
own_of address master = pick (ltb (length master) 9) false (same_bytes address (take 8 (drop 1 master)))
