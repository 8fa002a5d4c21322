use Rattle.std.proofs.Common.{ℕ, ◌+◌, ◌*◌, ◌/◌, ◌%◌, ap, ◌∙◌, arith}
use lib.Bits.{bit_xor, xor_assoc}
use Rattle.air.proofs.Register.{at_once, mixed, above}
use Rattle.air.proofs.crc.Register.fed.Goals as goal

pub returns : goal.returns
returns c =
    let r = c.args.self in
    let x : ℕ = bit_xor r.low c.args.byte in
    let e = at_once r.low r.high c.args.byte (omega arith) (omega arith) (omega arith) in
    let a = xor_assoc r.high (mixed x * 8 % 256) (mixed x / 16) in
    record { value = ap (λ k. above x * 256 + k) a ∙ e }
