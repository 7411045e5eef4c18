-- `crc::crc` meets its contract. The invariant: the CRC from here, over the bytes that are left, is the CRC of all.
use mathlib.Core.Path.{◌≡◌}
use lib.ListN.{drop}
use Rattle.crc.specs.Crc.{crc_from, crc_of}
use Rattle.crc.proofs.crc.Given as goal

abbrev pub invariant-loop-b : goal.invariant-loop-b
invariant-loop-b l = crc_from l.c (drop l.b-index l.message) ≡ crc_of l.message
