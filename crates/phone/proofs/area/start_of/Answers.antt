use Rattle.std.proofs.Common.{◌≡◌, ℕ, ◌+◌, ◌*◌, ◌/◌, ◌%◌, ◌^◌, ◌<◌, arith, pow_mono, shl_lt, shl_exact}
use lib.Bits.{bit_and, and_mask}
use Rattle.phone.specs.Areas.{starts}
use Rattle.phone.proofs.area.start_of.Goals as goal

pub returns : goal.returns
unfolding starts
returns c =
    let p = c.args.position in
    let k : ℕ = c.args.control % 16 in
    let m : bit_and c.args.control 15 ≡ c.args.control % 16 = and_mask c.args.control 4 in
    let n : bit_and c.args.position 15 ≡ c.args.position % 16 = and_mask c.args.position 4 in
    let f = c.from.ensures in
    let g = c.from-2.ensures in
    let h : p / 16 < 16 = omega arith in
    let b : k < 16 = omega arith in
    let x = shl_exact {a = p / 16} 4 k 32 h (omega arith) in
    let y = shl_lt {a = p / 16} 4 k h in
    let z = pow_mono {i = 4 + k} {j = 19} (omega arith) in
    let q : c.from.result * 2 ^ (bit_and c.args.control 15) % 4294967296 ≡ p / 16 * 2 ^ k = rw (m, f, x) in
    record { value = rw (q, g, n); bound = omega (arith, q, g, n, y, z) }
