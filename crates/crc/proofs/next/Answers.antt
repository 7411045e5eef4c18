use Prim.Native.Nat.{◌<◌}
use lib.Bits.{bit_xor, xor_lt}
use Rattle.crc.specs.Crc.{next_of}
use Rattle.crc.proofs.next.Goals as goal

pub returns : goal.returns
unfolding next_of
returns c = let below : bit_xor c.args.c c.args.b < 256 = xor_lt 8 c.args.c c.args.b c.ranges.c.fits c.ranges.b.fits in
    rw c.from.ensures (c.requires (bit_xor c.args.c c.args.b) below)
