use Rattle.std.proofs.Common.{◌≡◌, take, fold}
use Rattle.air.specs.Crc.{worth, byte_in}
use Rattle.air.proofs.crc.crc_a.Given as goal

abbrev pub invariant-loop-byte : goal.invariant-loop-byte
invariant-loop-byte l = worth l.register ≡ fold byte_in 0x6363 (take l.byte-index l.bytes)
