use Rattle.std.proofs.Common.{arith}
use Rattle.air.proofs.Cuts.{masked, gathered_is}
use Rattle.air.proofs.bits.first_bits.Goals as goal

pub returns : goal.returns
returns c =
    let n = c.args.count in
    let m = masked c.number.result n (omega arith) in
    let g = gathered_is c.args.bytes.now c.number.result n c.number.ensures.bits (omega arith) in
    record { value = cc }
